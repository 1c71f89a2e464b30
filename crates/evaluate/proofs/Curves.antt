-- The answers of `eval_at`, `eval`, `eval2_at`, `eval2`.
-- Assumes nothing.
use Prim.Native.Nat.{ℕ, ◌+◌, ◌-◌, ◌≤◌}
use mathlib.Core.Bool.{Bool, true, false}
use mathlib.Core.Path.{◌≡◌, refl, ◌∙◌, ap, ap₂}
use mathlib.Core.List.{List}
use native.Mathlib.Omega.{arith}
use lib.Ieee.{Float}
use borrow.Author.Tests.{eq-eqb}
use Rattle.exact.specs.Scheme.{ders_of}
use Rattle.std.specs.Prelude.{Ok, Err}
use Rattle.knots.specs.Refusal.{refuse, checked}
use Rattle.knots.specs.declared.refusal.Reason.TheVariants.{ParameterOutside}
use Rattle.knots.specs.Span.{outside, refusing, clamping, domain_refusal}
use Rattle.knots.specs.Curve.{count_of, curve_refusal}
use Rattle.knots.specs.Shape.{degree_refusal}
use Rattle.knots.specs.declared.refusal.Refusal.{Refusal}
use Rattle.knots.proofs.Refusals.{or_else-none}
use Rattle.knots.proofs.Answers.{modes-same, outside-refused}
use Rattle.basis.specs.Floats.{floats}
use Rattle.basis.specs.Basis.{cell, left_of, right_of}
use Rattle.basis.specs.Ders.{basis_table}
use Rattle.basis.proofs.Whole.{Reach, basis-at}
use Rattle.evaluate.specs.Controls.{scale_of, row_sums}
use Rattle.runs.specs.Point.{point_of}
use Rattle.evaluate.specs.Curve.{quotient, active_sums, curve_of, found_of, looked, parameter_refusal, step_refusal, eval_refusal, eval_at_of, eval_of}
use Rattle.evaluate.specs.Curve2.{quotient2, curve2_of, told2, found2_of, eval2_at_of, eval2_of}
use Rattle.runs.specs.declared.vector.Vector.{Vector}
use Rattle.evaluate.specs.declared.sums.Sums.{Sums}
use Rattle.evaluate.specs.declared.curve.CurveDerivs.{CurveDerivs}
use Rattle.evaluate.specs.declared.curve2.CurveDerivs2.{CurveDerivs2}
use Rattle.evaluate.proofs.Summed.{row-cong}
use Rattle.evaluate.proofs.Steps.{open_span, handed_on, passed_on}

-- ---- the sums over a row of the table are the sums over the derivatives
module _ (p n : ℕ) (ks ps : List Float) (g : Bool) (ws : List Float) (s : ℕ) (v : Float) (R : Reach 195 p n ks s) (ders : List Float)
    (D : ders ≡ basis_table 195 p n ks s v) (m : Float) (M : m ≡ scale_of g ws (s - p) (p + 1)) where
  pub active-is : (two : Bool) (k : ℕ) → k ≤ n → (a : Sums) → a ≡ row_sums two ps g ws m (s - p) (cell ders k) (p + 1) → a ≡ active_sums p ks ps g ws two s v k
  unfolding active_sums
  active-is two k K a A =
      A ∙ (row-cong two ps g ws m (s - p) (cell ders k) (ders_of floats (left_of ks s v) (right_of ks s v) p k) (p + 1)
      (λ j b. ap (λ (t : List Float). cell t k j) D ∙ basis-at p n ks s v 195 R k j K (omega arith))
      ∙ ap (λ (x : Float). row_sums two ps g ws x (s - p) (ders_of floats (left_of ks s v) (right_of ks s v) p k) (p + 1)) M)

  pub curve-is : 1 ≤ n → (o : Vector) (a d : Sums) (r : CurveDerivs) → o ≡ point_of ps (s - p)
      → a ≡ row_sums false ps g ws m (s - p) (cell ders 0) (p + 1) → d ≡ row_sums false ps g ws m (s - p) (cell ders 1) (p + 1)
      → r ≡ quotient o a d → r ≡ curve_of p ks ps g ws s v
  unfolding curve_of
  curve-is N o a d r O A B E =
      E ∙ (ap (λ (x : Vector). quotient x a d) O ∙ ap₂ (quotient (point_of ps (s - p))) (active-is false 0 (omega arith) a A) (active-is false 1 N d B))

  pub curve2-is : 2 ≤ n → (o : Vector) (a d e : Sums) (r : CurveDerivs2) → o ≡ point_of ps (s - p)
      → a ≡ row_sums true ps g ws m (s - p) (cell ders 0) (p + 1) → d ≡ row_sums true ps g ws m (s - p) (cell ders 1) (p + 1)
      → e ≡ row_sums true ps g ws m (s - p) (cell ders 2) (p + 1) → r ≡ quotient2 o a d e → r ≡ curve2_of p ks ps g ws s v
  unfolding curve2_of
  curve2-is N o a d e r O A B C E =
      E ∙ (ap₂ (λ (x : Vector) (y : Sums). quotient2 x y d e) O (active-is true 0 (omega arith) a A)
      ∙ ap₂ (quotient2 (point_of ps (s - p)) (active_sums p ks ps g ws true s v 0)) (active-is true 1 (omega arith) d B) (active-is true 2 N e C))

-- ---- the answers: what was found, or the refusal, is the step's and the evaluation's
module _ (c : Bool) (p : ℕ) (ks ps : List Float) (g : Bool) (ws : List Float) (t : Float) where
  pub step-refused : {r : Refusal} → Err r ≡ checked (step_refusal c p ks ps g ws t) → Err r ≡ eval_at_of c p ks ps g ws t
  unfolding eval_at_of
  step-refused = handed_on _ _

  pub step2-refused : {r : Refusal} → Err r ≡ checked (step_refusal c p ks ps g ws t) → Err r ≡ eval2_at_of c p ks ps g ws t
  unfolding eval2_at_of
  step2-refused = handed_on _ _

  pub eval-refused : {r : Refusal} → Err r ≡ checked (eval_refusal c p ks ps g ws t) → Err r ≡ eval_of c p ks ps g ws t
  unfolding eval_of
  eval-refused = handed_on _ _

  pub eval2-refused : {r : Refusal} → Err r ≡ checked (eval_refusal c p ks ps g ws t) → Err r ≡ eval2_of c p ks ps g ws t
  unfolding eval2_of
  eval2-refused = handed_on _ _

  module _ (h : (step_refusal c p ks ps g ws t).number ≡ 0) where
    pub step_is : (d : CurveDerivs) → d ≡ found_of p ks ps g ws t → Ok d ≡ eval_at_of c p ks ps g ws t
    unfolding eval_at_of
    step_is d e = passed_on _ _ _ h (ap Ok e)

    pub step2-is : told2 (found2_of p ks ps g ws t) ≡ eval2_at_of c p ks ps g ws t
    unfolding eval2_at_of
    step2-is = passed_on _ _ _ h refl

  module _ (h : (eval_refusal c p ks ps g ws t).number ≡ 0) where
    pub eval-is : (d : CurveDerivs) → d ≡ found_of p ks ps g ws t → Ok d ≡ eval_of c p ks ps g ws t
    unfolding found_of eval_of
    eval-is d e = passed_on _ _ _ h (ap Ok (e ∙ ap (λ (s : ℕ). curve_of p ks ps g ws s (looked p ks ps t)) (open_span p ks ps g ws c t h)))

    pub eval2-is : told2 (found2_of p ks ps g ws t) ≡ eval2_of c p ks ps g ws t
    unfolding found2_of eval2_of
    eval2-is = passed_on _ _ _ h (ap (λ (s : ℕ). told2 (curve2_of p ks ps g ws s (looked p ks ps t))) (open_span p ks ps g ws c t h))

-- ---- where the parameter is not outside the domain, both modes answer alike
module _ (p : ℕ) (ks ps : List Float) (g : Bool) (ws : List Float) (t : Float) (i : outside p (count_of ps) ks t ≡ false) where
  pub eval-inside-same : eval_of refusing p ks ps g ws t ≡ eval_of clamping p ks ps g ws t
  unfolding eval_of eval_refusal parameter_refusal
  eval-inside-same = simp (modes-same p (count_of ps) ks t i)

  pub eval2-inside-same : eval2_of refusing p ks ps g ws t ≡ eval2_of clamping p ks ps g ws t
  unfolding eval2_of eval_refusal parameter_refusal
  eval2-inside-same = simp (modes-same p (count_of ps) ks t i)

-- ---- where it is, and the clamped call is refused by nothing before 21, the other is refused by 43
module _ (p : ℕ) (ks ps : List Float) (g : Bool) (ws : List Float) (t : Float) (h : (eval_refusal clamping p ks ps g ws t).number ≡ 0) (o : outside p (count_of ps) ks t ≡ true) where
  refused-43 : eval_refusal refusing p ks ps g ws t ≡ refuse ParameterOutside
  unfolding eval_refusal parameter_refusal
  refused-43 =
      let a = or_else-none (curve_refusal p ks ps g ws) _ h in
      let b = or_else-none (degree_refusal p) (domain_refusal clamping p (count_of ps) ks t) a.1 in
      simp (eq-eqb (curve_refusal p ks ps g ws).number 0 a.0, eq-eqb (degree_refusal p).number 0 b.0) (outside-refused p (count_of ps) ks t b.1 o)

  pub eval-outside : eval_of refusing p ks ps g ws t ≡ Err (refuse ParameterOutside)
  unfolding eval_of
  eval-outside = simp refused-43

  pub eval2-outside : eval2_of refusing p ks ps g ws t ≡ Err (refuse ParameterOutside)
  unfolding eval2_of
  eval2-outside = simp refused-43
