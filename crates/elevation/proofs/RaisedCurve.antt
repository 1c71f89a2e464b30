-- The raised curve, from the controls that stand in a run after the extraction.
-- Assumes nothing.
use Rattle.std.specs.Prelude.{Result, Err}
use Prim.Native.Nat.{ℕ, ◌+◌, ◌-◌, ◌*◌, ◌≤◌, ◌<◌}
use mathlib.Core.Bool.{Bool, true, false, not}
use mathlib.Core.Path.{◌≡◌, refl, sym, ◌∙◌, ap, ap₂, subst}
use mathlib.Core.List.{List, [], ◌∷◌, ◌++◌}
use native.Mathlib.Omega.{arith}
use native.Mathlib.Nat.{mul-le-mul_left}
use borrow.Author.Tests.{eqb-true, eqb-false, ne_eqb}
use lib.ListN.{length}
use lib.Dec.{eqb}
use lib.Ieee.{Float}
use Rattle.knots.specs.Below.{all_below}
use Rattle.knots.specs.Refusal.{refuse, checked}
use Rattle.knots.specs.declared.refusal.Reason.TheVariants.{ControlBad}
use Rattle.knots.specs.Clear.{zeros}
use Rattle.knots.specs.declared.refusal.Refusal.{Refusal}
use Rattle.knots.proofs.Refusals.{refused, stopped_by}
use Rattle.runs.specs.Point.{point_of}
use Rattle.runs.specs.declared.vector.Vector.{Vector}
use Rattle.edits.specs.Control.{vector_of, is_lifted}
use Rattle.edits.specs.Counts.{bit}
use Rattle.insertion.specs.Fold.{insert_all}
use Rattle.edits.specs.Outcome.{Outcome, gives, refuses}
use Rattle.edits.specs.Work.{points_from, weights_from, scale_in, controls, lift_refusal, lifted_run}
use Rattle.edits.specs.Rows.{scale_of}
use Rattle.edits.specs.Passes.{row_of, OutMeets}
use Rattle.edits.proofs.LiftCall.{lifted-bad, lifted-done}
use Rattle.edits.proofs.Outcomes.{checked-none}
use Rattle.edits.proofs.RowReads.{scale-fits, row-point}
use Rattle.edits.specs.declared.control.Control.{Control}
use Rattle.elevation.specs.Breaks.{breaks_of, is_full, missing_all}
use Rattle.elevation.specs.Raise.{raise_times}
use Rattle.elevation.specs.Elevate.{extracted_count, raised_count, raised_knots, segment_of, added_by, kept_from, kept_all, extracted, raised_controls, raised_points, raised_weights}
use Rattle.elevation.specs.Elevate.{raised_refusal, raised_outcome, after_extraction, raise_all}
use Rattle.elevation.specs.Whole.{elevated_count}
use Rattle.elevation.specs.Passes.{join_refusal, Joined, Raised}
use Rattle.elevation.proofs.RaiseLoop.{times-cong}
use Rattle.elevation.proofs.Overlaid.{over_zeros}
use Rattle.elevation.proofs.Putting.{controls-cong}
use Rattle.elevation.proofs.SegmentWalk.{skip-sum}

-- ---- equal controls are joined to equal ones
module _ (p e : ℕ) (l : p ≤ e) (ks : List Float) (f h : ℕ → Control) (b : ℕ) (E : (i : ℕ) → i < (p + 1) * (b + 1) → f i ≡ h i) where
  added-cong : (j : ℕ) → j ≤ b → (x : Bool) → added_by p e f j x ≡ added_by p e h j x
  unfolding added_by segment_of
  added-cong j u x =
      let s : j + 1 ≤ b + 1 = omega arith in
      let m = mul-le-mul_left (p + 1) s in
      let k = skip-sum x e in
      controls-cong (raise_times p (e - p) (λ i. f (j * (p + 1) + i))) (raise_times p (e - p) (λ i. h (j * (p + 1) + i))) (bit (not x)) (e + bit x)
      (λ i v. times-cong p (e - p) (λ i. f (j * (p + 1) + i)) (λ i. h (j * (p + 1) + i)) (λ i w. E (j * (p + 1) + i) (omega arith)) i (omega arith))

  from-cong : (j : ℕ) (ts : List Float) → j + length ts ≤ b + 1 → kept_from p e ks f j ts ≡ kept_from p e ks h j ts
  unfolding kept_from
  from-cong j [] u = refl
  from-cong j (t ∷ ts) u = ap₂ (λ (x y : List Control). x ++ y) (added-cong j (omega arith) (is_full p ks t)) (from-cong (j + 1) ts (omega arith))

  pub kept-cong : (bs : List Float) → length bs ≡ b → kept_all p e ks f bs ≡ kept_all p e ks h bs
  unfolding kept_all
  kept-cong bs B = ap₂ (λ (x y : List Control). x ++ y) (added-cong 0 (omega arith) true) (from-cong 1 bs (omega arith))

-- ---- 19, or what is joined of the controls that stand in a run
module _ (p e n : ℕ) (l : p ≤ e) (ks bs : List Float) (g : Bool) (P W : List Float) (k₀ p₀ w₀ k₁ p₁ w₁ : List Float) where
  abbrev H : ℕ → Control
  H = extracted p e n ks bs g P W

  pub raised-19 : all_below (λ i. is_lifted (H i)) (extracted_count p bs) ≡ false → (r : Refusal) → r ≡ refuse ControlBad → Raised p e n ks bs g P W k₀ p₀ w₀ k₁ p₁ w₁ (Err r)
  unfolding raised_refusal checked
  raised-19 F r R = record { refusal = simp F (ap Err R); knots = λ z. cc; points = λ z. cc; weights = λ z. cc }

  module _ (F : all_below (λ i. is_lifted (H i)) (extracted_count p bs) ≡ true) (h : ℕ → Control) (S : (i : ℕ) → i < extracted_count p bs → h i ≡ H i) (o : Vector) (O : o ≡ point_of P 0) (r : Result Unit Refusal)
      (J : Joined p e n ks bs g h o k₀ p₀ w₀ k₁ p₁ w₁ r) where
    kept-is : kept_all p e ks h bs ≡ kept_all p e ks H bs
    unfolding extracted_count
    kept-is = kept-cong p e l ks h H (length bs) S bs refl

    pub raised-joined : Raised p e n ks bs g P W k₀ p₀ w₀ k₁ p₁ w₁ r
    unfolding raised_refusal join_refusal raised_controls raised_points raised_weights
    raised-joined = record {
      refusal = simp F (J.refusal ∙ rw (kept-is, O));
      knots = J.knots;
      points = λ z. J.points z ∙ rw (kept-is, O);
      weights = λ z. J.weights z ∙ rw kept-is;
    }

-- ---- the whole, of the extraction's outcome
module _ (p e n : ℕ) (ks ps : List Float) (g : Bool) (ws bs : List Float) (a b c : ℕ) where
  abbrev goal : Outcome
  goal = raise_all p e n ks ps g ws bs

  -- the extraction is refused
  pub raise-stop : (r : Refusal) → insert_all p g n ks ps ws (missing_all p ks bs) ≡ refuses r → (k₁ p₁ w₁ : List Float) → OutMeets a b c goal k₁ p₁ w₁ (Err r)
  unfolding raise_all OutMeets
  raise-stop r E k₁ p₁ w₁ = let q : goal ≡ refuses r = ap (after_extraction (raised_outcome p e n ks bs g)) E in rw q refl

  module _ (K P W : List Float) (E : insert_all p g n ks ps ws (missing_all p ks bs) ≡ gives K P W) (k₀ p₀ w₀ k₁ p₁ w₁ : List Float) (r : Result Unit Refusal)
      (D : Raised p e n ks bs g P W k₀ p₀ w₀ k₁ p₁ w₁ r) where
    made : goal ≡ raised_outcome p e n ks bs g P W
    unfolding raise_all
    made = ap (after_extraction (raised_outcome p e n ks bs g)) E

    pub raise-end : k₀ ≡ zeros a → p₀ ≡ zeros b → w₀ ≡ zeros c → OutMeets a b c goal k₁ p₁ w₁ r
    unfolding raised_outcome OutMeets
    raise-end Z X Y = go (eqb (raised_refusal p e n ks bs g P W).number 0) refl
      where
        go : (x : Bool) → eqb (raised_refusal p e n ks bs g P W).number 0 ≡ x → OutMeets a b c goal k₁ p₁ w₁ r
        go true B =
            let z = D.refusal ∙ checked-none _ (eqb-true _ 0 B) in
            let q : goal ≡ gives (raised_knots p e n ks bs) (raised_points p e n ks bs g P W) (raised_weights p e n ks bs g P W) = made ∙ simp B in
            rw q
            ((
              z,
              over_zeros a (raised_knots p e n ks bs) k₀ k₁ Z (D.knots z),
              over_zeros b (raised_points p e n ks bs g P W) p₀ p₁ X (D.points z),
              over_zeros c (raised_weights p e n ks bs g P W) w₀ w₁ Y (D.weights z),
            ))
        go false B =
            let q : goal ≡ refuses (raised_refusal p e n ks bs g P W) = made ∙ simp B in
            rw q (D.refusal ∙ sym (refused _ (eqb-false _ 0 B)))

-- ---- the extracted curve of m points stands in a run, and is lifted there
pub elevated-is : (p e n : ℕ) (ks : List Float) → p < e → elevated_count p e n ks ≡ raised_count p e ks (breaks_of p n ks)
unfolding elevated_count
elevated-is p e n ks l = simp (ne_eqb e p (λ z. omega arith))

module _ (p e n : ℕ) (l : p ≤ e) (ks bs : List Float) (g : Bool) (m : ℕ) (M : m ≡ extracted_count p bs) (xs : List Float) (L : m * 4 ≤ length xs)
    (s : Float) (S : s ≡ scale_in m g xs) (k₀ p₀ w₀ k₁ p₁ w₁ : List Float) where
  abbrev P : List Float
  P = points_from m xs

  abbrev W : List Float
  W = weights_from g m xs

  scale : s ≡ scale_of g W
  scale = S ∙ scale-fits m g xs L

  refusal : lift_refusal s m g xs ≡ lift_refusal (scale_of g W) m g xs
  refusal = ap (λ (x : Float). lift_refusal x m g xs) scale

  pub lift-stop : (r : Refusal) → Err r ≡ checked (lift_refusal s m g xs) → Raised p e n ks bs g P W k₀ p₀ w₀ k₁ p₁ w₁ (Err r)
  lift-stop r E =
      let t = stopped_by _ (E ∙ ap checked refusal) in
      let u = lifted-bad (scale_of g W) m g xs L t.1 in
      raised-19 p e n l ks bs g P W k₀ p₀ w₀ k₁ p₁ w₁ (subst (λ (k : ℕ). all_below (λ i. is_lifted (controls (scale_of g W) m g xs i)) k ≡ false) M u.1) r (t.0 ∙ u.0)

  pub lift-joined : (lift_refusal s m g xs).number ≡ 0 → (ys : List Float) → ys ≡ lifted_run s m g xs → 0 < m → (o : Vector) → o ≡ vector_of (row_of g xs 0)
      → (r : Result Unit Refusal) → Joined p e n ks bs g (row_of g ys) o k₀ p₀ w₀ k₁ p₁ w₁ r → Raised p e n ks bs g P W k₀ p₀ w₀ k₁ p₁ w₁ r
  lift-joined z ys Y b o O r J =
      let D = lifted-done (scale_of g W) m g xs L (sym (ap (λ (x : Refusal). x.number) refusal) ∙ z) ys (Y ∙ ap (λ (x : Float). lifted_run x m g xs) scale) in
      raised-joined p e n l ks bs g P W k₀ p₀ w₀ k₁ p₁ w₁
      (subst (λ (k : ℕ). all_below (λ i. is_lifted (controls (scale_of g W) m g xs i)) k ≡ true) M (sym D.answer)) (row_of g ys)
      (λ i u. D.rows refl i (subst (λ (k : ℕ). i < k) (sym M) u)) o (O ∙ sym (row-point g m xs 0 b)) r J

pub some-points : (p m : ℕ) (bs : List Float) → m ≡ extracted_count p bs → 0 < m
unfolding extracted_count
some-points p m bs M = let s : 1 ≤ length bs + 1 = omega arith in let k = mul-le-mul_left (p + 1) s in omega arith
