-- The answers of `eval_surface_at` and `eval_surface`.
-- Assumes nothing.
use Prim.Native.Nat.{ℕ, ◌+◌, ◌-◌, ◌*◌, ◌/◌, ◌%◌, ◌≤◌}
use mathlib.Core.Bool.{Bool, true, false, not, ◌||◌}
use mathlib.Core.Path.{◌≡◌, refl, sym, ◌∙◌, ap, ap₂, subst}
use mathlib.Core.List.{List}
use native.Mathlib.Omega.{arith}
use native.Mathlib.Nat.{mul-mod_right, mul-div_right}
use lib.ListN.{length}
use lib.Dec.{eqb}
use lib.Ieee.{Float}
use borrow.Author.Tests.{eqb-true, eq-eqb, not-false}
use Rattle.exact.specs.Scheme.{ders_of}
use Rattle.std.specs.Prelude.{Ok, Err}
use Rattle.knots.specs.Refusal.{refuse, accepted, checked, along, or_else}
use Rattle.knots.specs.declared.refusal.Reason.TheVariants.{NetSize, PointsUneven, ParameterOutside}
use Rattle.knots.specs.Curve.{count_of}
use Rattle.knots.specs.Span.{outside, clamped, refusing, clamping, domain_refusal, span_of, searched}
use Rattle.knots.specs.Surface.{surface_refusal, ValidSurface}
use Rattle.knots.specs.declared.refusal.Refusal.{Refusal}
use Rattle.knots.proofs.Refusals.{passed, or_else-none}
use Rattle.knots.proofs.Surfaces.{valid-surface}
use Rattle.basis.specs.Floats.{floats}
use Rattle.basis.specs.Basis.{cell, left_of, right_of}
use Rattle.basis.specs.Ders.{basis_table}
use Rattle.basis.proofs.Whole.{Reach, basis-at}
use Rattle.knots.specs.Shape.{degree_refusal, weight_shape, knot_shape, surface_shape}
use Rattle.runs.specs.Point.{point_of}
use Rattle.evaluate.specs.Surface.{NetReach, net_scale, net_sums, surface_quotient, active_net, surface_of, surface_found, degrees_refusal, parameters_refusal, surface_step_refusal}
use Rattle.evaluate.specs.Surface.{surface_eval_refusal, surface_at_of, eval_surface_of}
use Rattle.runs.specs.declared.vector.Vector.{Vector}
use Rattle.evaluate.specs.declared.sums.Sums.{Sums}
use Rattle.evaluate.specs.declared.surface.SurfaceDerivs.{SurfaceDerivs}
use Rattle.knots.proofs.Searches.{searched-is}
use Rattle.knots.proofs.Answers.{domain-open, domain-none, modes-same, outside-refused}
use Rattle.knots.proofs.Shapes.{degree-open, weights-open, weights-none, Fitting, knots-open, knots-none}
use Rattle.evaluate.proofs.Steps.{Found, handed_on, passed_on}
use Rattle.evaluate.proofs.Nets.{net-place, net-cong}

-- ---- sums over rows of the tables are sums over the derivatives
module _ (p q : ℕ) (us vs : List Float) (n : ℕ) (ps : List Float) (g : Bool) (ws : List Float) (s t : ℕ) (u v : Float) (du dv : List Float)
    (R : Reach 195 p 1 us s) (D : du ≡ basis_table 195 p 1 us s u) (T : Reach 195 q 1 vs t) (E : dv ≡ basis_table 195 q 1 vs t v)
    (o : Vector) (O : o ≡ point_of ps ((s - p) * n + (t - q))) (m : Float) (M : m ≡ net_scale g ws n (s - p) (t - q) (q + 1) (p + 1)) where
  net-is : (i j : ℕ) → i ≤ 1 → j ≤ 1 → (a : Sums) → a ≡ net_sums ps g ws m o n (s - p) (t - q) (cell du i) (cell dv j) (q + 1) (p + 1)
      → a ≡ active_net p q us vs n ps g ws s t u v i j
  unfolding active_net
  net-is i j I J a A =
      A ∙ (net-cong ps g ws m o n (s - p) (t - q) (q + 1) (cell du i) (ders_of floats (left_of us s u) (right_of us s u) p i) (cell dv j) (ders_of floats (left_of vs t v) (right_of vs t v) q j) (p + 1)
      (λ k b. ap (λ (l : List Float). cell l i k) D ∙ basis-at p 1 us s u 195 R i k I (omega arith))
      (λ k b. ap (λ (l : List Float). cell l j k) E ∙ basis-at q 1 vs t v 195 T j k J (omega arith))
      ∙ ap₂
      (λ (x : Float) (y : Vector). net_sums ps g ws x y n (s - p) (t - q) (ders_of floats (left_of us s u) (right_of us s u) p i) (ders_of floats (left_of vs t v) (right_of vs t v) q j) (q + 1) (p + 1)) M
      O)

  pub surface-is : (a d e : Sums) (r : SurfaceDerivs) → a ≡ net_sums ps g ws m o n (s - p) (t - q) (cell du 0) (cell dv 0) (q + 1) (p + 1)
      → d ≡ net_sums ps g ws m o n (s - p) (t - q) (cell du 1) (cell dv 0) (q + 1) (p + 1)
      → e ≡ net_sums ps g ws m o n (s - p) (t - q) (cell du 0) (cell dv 1) (q + 1) (p + 1)
      → r ≡ surface_quotient o a d e → r ≡ surface_of p q us vs n ps g ws s t u v
  unfolding surface_of
  surface-is a d e r A B C Q =
      Q ∙ (ap₂ (λ (x : Vector) (y : Sums). surface_quotient x y d e) O (net-is 0 0 (omega arith) (omega arith) a A)
      ∙ ap₂
      (surface_quotient (point_of ps ((s - p) * n + (t - q))) (active_net p q us vs n ps g ws s t u v 0 0)) (net-is 1 0 (omega arith) (omega arith) d B) (net-is 0 1 (omega arith) (omega arith) e C))

-- ---- what no refusal says
pub degrees-open : (p q : ℕ) → (degrees_refusal p q).number ≡ 0 → (p ≤ 64) × (q ≤ 64)
unfolding degrees_refusal
degrees-open p q h = let a = or_else-none (degree_refusal p) (degree_refusal q) h in (degree-open p a.0, degree-open q a.1)

module _ (c : Bool) (p q : ℕ) (us vs : List Float) (m n : ℕ) (u v : Float) where
  record ParametersOpen : Type 0 where
    u-high : p ≤ 64
    v_high : q ≤ 64
    u-open : (domain_refusal c p m us u).number ≡ 0
    v-open : (domain_refusal c q n vs v).number ≡ 0

  parameters-open : (parameters_refusal c p q us vs m n u v).number ≡ 0 → ParametersOpen
  unfolding parameters_refusal
  parameters-open h =
      let a = or_else-none (degrees_refusal p q) _ h in
      let b = degrees-open p q a.0 in
      let d = or_else-none (domain_refusal c p m us u) (domain_refusal c q n vs v) a.1 in
      record { u-high = b.0; v_high = b.1; u-open = d.0; v-open = d.1 }

module _ (p q : ℕ) (us vs : List Float) (m n : ℕ) (ps : List Float) (g : Bool) (ws : List Float) where
  pub record SurfaceShaped : Type 0 where
    pub size : count_of ps ≡ m * n
    pub u : Fitting p m us
    pub v : Fitting q n vs
    pub weights : g ≡ true → length ws ≡ m * n

  pub surface-shaped : (surface_shape p q us vs m n ps g ws).number ≡ 0 → SurfaceShaped
  unfolding surface_shape
  surface-shaped h =
      let a = passed (not (eqb (length ps % 3) 0)) (refuse PointsUneven) _ (λ e. omega arith) h in
      let b = passed (not (eqb (count_of ps) (m * n))) (refuse NetSize) _ (λ e. omega arith) a.1 in
      let c = or_else-none (along 0 (knot_shape p m us)) _ b.1 in
      let d = or_else-none (along 1 (knot_shape q n vs)) (weight_shape (count_of ps) g ws) c.1 in
      let e : count_of ps ≡ m * n = eqb-true (count_of ps) (m * n) (not-false _ b.0) in
      record {
        size = e;
        u = knots-open p m us c.0;
        v = knots-open q n vs d.0;
        weights = λ k. weights-open (count_of ps) g ws d.1 k ∙ e;
      }

  pub size_is : ValidSurface p q us vs m n ps g ws → count_of ps ≡ m * n
  size_is s = ap (λ (k : ℕ). k / 3) s.triples ∙ mul-div_right (m * n) (omega arith)

  surface-shape-none : ValidSurface p q us vs m n ps g ws → surface_shape p q us vs m n ps g ws ≡ accepted
  unfolding surface_shape
  surface-shape-none s =
      let rest : length ps % 3 ≡ 0 = ap (λ (k : ℕ). k % 3) s.triples ∙ mul-mod_right 3 (m * n) in
      simp (
        eq-eqb (length ps % 3) 0 rest,
        eq-eqb (count_of ps) (m * n) (size_is s),
        knots-none p m us s.u,
        knots-none q n vs s.v,
        weights-none (count_of ps) g ws (λ e. s.controls.weights e ∙ sym (size_is s)),
      )

  -- what is read of runs that fit each other lies in the net
  module _ (o : SurfaceShaped) (s t : ℕ) (S : Found p m us s) (T : Found q n vs t) where
    net-reach : NetReach (m * n) n (s - p) p (t - q) q
    net-reach k K =
        let B = S.below in
        let C = T.below in
        let F = S.from in
        let G = T.from in
        let h = net-place m n (s - p + k) t (omega arith) (omega arith) in
        omega arith

    pub points-net : NetReach (length ps / 3) n (s - p) p (t - q) q
    points-net = subst (λ (l : ℕ). NetReach l n (s - p) p (t - q) q) (sym o.size) net-reach

    pub weights-net : g ≡ true → NetReach (length ws) n (s - p) p (t - q) q
    weights-net e = subst (λ (l : ℕ). NetReach l n (s - p) p (t - q) q) (sym (o.weights e)) net-reach

  module _ (c : Bool) (u v : Float) where
    -- where nothing is refused the runs fit
    abbrev SurfaceFits : Type 0
    SurfaceFits = (p ≤ 64) × ((q ≤ 64) × ((surface_shape p q us vs m n ps g ws).number ≡ 0))

    pub surface-step-fits : (surface_step_refusal c p q us vs m n ps g ws u v).number ≡ 0 → SurfaceFits
    unfolding surface_step_refusal
    surface-step-fits h =
        let a = or_else-none (surface_shape p q us vs m n ps g ws) (parameters_refusal c p q us vs m n u v) h in
        let b = parameters-open c p q us vs m n u v a.1 in
        (b.u-high, (b.v_high, a.0))

    record SurfaceOpen : Type 0 where
      surface : ValidSurface p q us vs m n ps g ws
      parameters : ParametersOpen c p q us vs m n u v

    surface-open : (surface_eval_refusal c p q us vs m n ps g ws u v).number ≡ 0 → SurfaceOpen
    unfolding surface_eval_refusal
    surface-open h =
        let a = or_else-none (surface_refusal p q us vs m n ps g ws) (parameters_refusal c p q us vs m n u v) h in
        record { surface = valid-surface p q us vs m n ps g ws a.0; parameters = parameters-open c p q us vs m n u v a.1 }

    pub surface-eval-fits : (surface_eval_refusal c p q us vs m n ps g ws u v).number ≡ 0 → SurfaceFits
    surface-eval-fits h =
        let o = surface-open h in
        (o.parameters.u-high, (o.parameters.v_high, ap (λ (x : Refusal). x.number) (surface-shape-none o.surface)))

    -- ---- the answers: what was found, or the refusal, is the step's and the evaluation's
    pub surface-step-refused : {r : Refusal} → Err r ≡ checked (surface_step_refusal c p q us vs m n ps g ws u v) → Err r ≡ surface_at_of c p q us vs m n ps g ws u v
    unfolding surface_at_of
    surface-step-refused = handed_on _ _

    pub surface-eval-refused : {r : Refusal} → Err r ≡ checked (surface_eval_refusal c p q us vs m n ps g ws u v) → Err r ≡ eval_surface_of c p q us vs m n ps g ws u v
    unfolding eval_surface_of
    surface-eval-refused = handed_on _ _

    pub surface-step-is : (surface_step_refusal c p q us vs m n ps g ws u v).number ≡ 0 → (d : SurfaceDerivs) → d ≡ surface_found p q us vs m n ps g ws u v → Ok d ≡ surface_at_of c p q us vs m n ps g ws u v
    unfolding surface_at_of
    surface-step-is h d e = passed_on _ _ _ h (ap Ok e)

    pub surface-eval-is : (surface_eval_refusal c p q us vs m n ps g ws u v).number ≡ 0 → (d : SurfaceDerivs) → d ≡ surface_found p q us vs m n ps g ws u v → Ok d ≡ eval_surface_of c p q us vs m n ps g ws u v
    unfolding surface_found eval_surface_of
    surface-eval-is h d e =
        let o = surface-open h in
        let along-u : searched p m us (clamped p m us u) ≡ span_of p m us (clamped p m us u) = searched-is p m us u o.surface.u (domain-open p m us u c o.parameters.u-open).0 in
        let along-v : searched q n vs (clamped q n vs v) ≡ span_of q n vs (clamped q n vs v) = searched-is q n vs v o.surface.v (domain-open q n vs v c o.parameters.v-open).0 in
        passed_on _ _ _ h (ap Ok (e ∙ ap₂ (λ (s t : ℕ). surface_of p q us vs n ps g ws s t (clamped p m us u) (clamped q n vs v)) along-u along-v))

  -- ---- where neither parameter is outside the domain, both modes answer alike
  pub surface-inside-same : (u v : Float) → outside p m us u ≡ false → outside q n vs v ≡ false
      → eval_surface_of refusing p q us vs m n ps g ws u v ≡ eval_surface_of clamping p q us vs m n ps g ws u v
  unfolding eval_surface_of surface_eval_refusal parameters_refusal
  surface-inside-same u v i j = simp (modes-same p m us u i, modes-same q n vs v j)

  -- where one is, and the clamped call is not refused, the other is refused by 43
  refused-43 : (u v : Float) → (surface_eval_refusal clamping p q us vs m n ps g ws u v).number ≡ 0 → (outside p m us u || outside q n vs v) ≡ true
      → surface_eval_refusal refusing p q us vs m n ps g ws u v ≡ refuse ParameterOutside
  unfolding surface_eval_refusal parameters_refusal
  refused-43 u v h o =
      let a = or_else-none (surface_refusal p q us vs m n ps g ws) _ h in
      let b = or_else-none (degrees_refusal p q) _ a.1 in
      let d = or_else-none (domain_refusal clamping p m us u) (domain_refusal clamping q n vs v) b.1 in
      simp (eq-eqb (surface_refusal p q us vs m n ps g ws).number 0 a.0, eq-eqb (degrees_refusal p q).number 0 b.0) (go d.0 d.1 (outside p m us u) refl o)
    where
      go : (domain_refusal clamping p m us u).number ≡ 0 → (domain_refusal clamping q n vs v).number ≡ 0 → (x : Bool) → outside p m us u ≡ x → (x || outside q n vs v) ≡ true
          → or_else (domain_refusal refusing p m us u) (domain_refusal refusing q n vs v) ≡ refuse ParameterOutside
      go x y true e o = simp (outside-refused p m us u x e)
      go x y false e o = simp (modes-same p m us u e, domain-none p m us u clamping x) (outside-refused q n vs v y o)

  pub surface-outside : (u v : Float) → (surface_eval_refusal clamping p q us vs m n ps g ws u v).number ≡ 0 → (outside p m us u || outside q n vs v) ≡ true
      → eval_surface_of refusing p q us vs m n ps g ws u v ≡ Err (refuse ParameterOutside)
  unfolding eval_surface_of
  surface-outside u v h o = simp (refused-43 u v h o)
