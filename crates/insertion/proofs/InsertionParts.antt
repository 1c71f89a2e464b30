-- The parts of one insertion: controls that are equal, refusals one after the other, a knot put among others.
-- Assumes nothing.
use Rattle.std.specs.Prelude.{Result}
use Prim.Native.Nat.{ℕ, ◌+◌, ◌-◌, ◌/◌, ◌≤◌, ◌<◌}
use mathlib.Core.Bool.{Bool, true, false, not, cond}
use mathlib.Core.Path.{◌≡◌, refl, sym, ◌∙◌, ap, ap₂}
use mathlib.Core.Logic.{⊎_elim}
use mathlib.Core.List.{List, ◌++◌}
use native.Mathlib.Omega.{arith}
use borrow.Author.Tests.{eq-eqb, leb-true, leb-false, not-true}
use lib.ListN.{length, drop, length-take, length-drop, get_or-append}
use lib.Seq.{get_or-append-add, get_or-drop, ext_get_or}
use lib.Dec.{leb}
use lib.Ieee.{Float, nan, le}
use lib.Ieee.Scale.{finite}
use Rattle.doubles.specs.Run.{at}
use Rattle.doubles.specs.Value.{zero+}
use Rattle.doubles.proofs.TestedOrder.{le-fails}
use Rattle.knots.specs.Below.{all_below}
use Rattle.knots.specs.Refusal.{refuse, accepted, placed, checked}
use Rattle.knots.specs.declared.refusal.Reason.TheVariants.{EditBad, PointNotFinite}
use Rattle.knots.specs.Knots.{all_finite, non_finite_at}
use Rattle.knots.specs.Curve.{is_weight, all_weights, control_refusal}
use Rattle.knots.specs.declared.refusal.Refusal.{Refusal}
use Rattle.knots.proofs.Below.{all-cong, off-cong, and-true, and_left, and_right, all-at, all_in}
use Rattle.runs.specs.Tabulate.{tabulate}
use Rattle.runs.proofs.Tabulated.{length-tabulate, at-tabulate}
use Rattle.runs.proofs.Cases.{lt-or-ge}
use Rattle.runs.specs.Point.{finite_vector}
use Rattle.runs.specs.declared.vector.Vector.{Vector}
use Rattle.edits.specs.Control.{is_lifted, is_blended, share_of, blend_of, lower_of}
use Rattle.edits.specs.Rows.{weight_in, given}
use Rattle.insertion.specs.Insert.{blend_at, knot_at, more_knots}
use Rattle.edits.specs.Work.{knots_from}
use Rattle.edits.specs.Passes.{kept_row, stored}
use Rattle.insertion.specs.Passes.{lower_refusal, LowerDone}
use Rattle.edits.specs.declared.control.Control.{Control}
use Rattle.edits.proofs.RowReads.{knot-from}
use Rattle.insertion.proofs.Storing.{knot-low, knot-here, knot-high}

-- ---- what is equal place by place
module _ (p k s : ℕ) (t : Float) (ks : List Float) (f h : ℕ → Control) (n : ℕ) (S : s ≤ p) (P : p ≤ k) (K : k < n) (e : (i : ℕ) → i < n → f i ≡ h i) where
  pub blend-cong : (i : ℕ) → i < n + 1 → blend_at p k s t ks f i ≡ blend_at p k s t ks h i
  unfolding blend_at
  blend-cong i l = go (leb i (k - p)) refl (leb i (k - s)) refl
    where
      go : (x : Bool) → leb i (k - p) ≡ x → (y : Bool) → leb i (k - s) ≡ y → blend_at p k s t ks f i ≡ blend_at p k s t ks h i
      go true X y Y = let b = leb-true i (k - p) X in simp X (e i (omega arith))
      go false X true Y =
          let b = leb-true i (k - s) Y in
          simp (X, Y) (ap₂ (λ (a c : Control). blend_of a c (share_of t (at ks i) (at ks (i + p)))) (e (i - 1) (omega arith)) (e i (omega arith)))
      go false X false Y = let b = leb-false i (k - p) X in simp (X, Y) (e (i - 1) (omega arith))

pub lower-cong : (o : Vector) (g : Bool) (f h : ℕ → Control) (m : ℕ) (r₀ r₁ : List Float) (r : Result Unit Refusal) → ((i : ℕ) → i < m → f i ≡ h i) → LowerDone o g f m r₀ r₁ r → LowerDone o g h m r₀ r₁ r
unfolding lower_refusal
lower-cong o g f h m r₀ r₁ r e D = record {
  answer = D.answer ∙ ap checked (same
      (all-cong (λ i. is_blended (f i)) (λ i. is_blended (h i)) m (λ i l. ap is_blended (e i l)))
      (all-cong (λ i. finite_vector (lower_of o (f i))) (λ i. finite_vector (lower_of o (h i))) m sound)
      (off-cong (λ i. finite_vector (lower_of o (f i))) (λ i. finite_vector (lower_of o (h i))) m sound));
  rows = λ z i l. D.rows z i l ∙ ap (λ (q : Control). stored g (kept_row (lower_of o q) q.w)) (e i l);
  rest = D.rest;
}
  where
    sound : (i : ℕ) → i < m → finite_vector (lower_of o (f i)) ≡ finite_vector (lower_of o (h i))
    sound i l = ap (λ (q : Control). finite_vector (lower_of o q)) (e i l)

    same : {x y u v : Bool} {i j : ℕ} → x ≡ y → u ≡ v → i ≡ j
        → cond (not x) (refuse EditBad) (cond (not u) (placed i (refuse PointNotFinite)) accepted) ≡ cond (not y) (refuse EditBad) (cond (not v) (placed j (refuse PointNotFinite)) accepted)
    same X U I = rw (X, U, I)

-- ---- one refusal after the other
pub first_of : (a b : Bool) (x y z : Refusal) → a ≡ false → x ≡ cond (not a) x (cond (not b) y z)
first_of a b x y z A = simp A

pub joined : (a b c : Bool) (x y u z : Refusal) (r : Result Unit Refusal) → a ≡ true → (b ≡ true → cond (not c) u accepted ≡ z) → r ≡ checked (cond (not b) y (cond (not c) u accepted)) → r ≡ checked (cond (not a) x (cond (not b) y z))
joined true true c x y u z r A h e = e ∙ ap checked (h refl)
joined true false c x y u z r A h e = e
joined false b c x y u z r A h e = let q : ◌≡◌ {A = ℕ} 0 1 = cc in absurd (omega arith)

-- ---- what 20 lets pass has a weight: 9 and 10 are never given
weight_is : (q : Control) → is_blended q ≡ true → is_weight q.w ≡ true
unfolding is_blended is_lifted is_weight
weight_is q h =
    let f = and_right (is_lifted q) (finite q.w) h in
    let a = and_right (finite q.x) _ (and_left (is_lifted q) (finite q.w) h) in
    let b = and_right (finite q.y) _ a in
    let c = and_right (finite q.z) (not (le q.w zero+)) b in
    and-true (finite q.w) _ f (le-fails q.w zero+ f refl (not-true _ c))

pub points-left : (n : ℕ) (ps : List Float) (g : Bool) (h : ℕ → Control) → all_below (λ i. is_blended (h i)) n ≡ true
    → cond (not (all_finite ps)) (placed (non_finite_at ps / 3) (refuse PointNotFinite)) accepted ≡ control_refusal n ps g (tabulate (given g n) (weight_in h))
unfolding control_refusal all_weights
points-left n ps true h B =
    let l = length-tabulate n (weight_in h) in
    let w : all_below (λ k. is_weight (at (tabulate n (weight_in h)) k)) (length (tabulate n (weight_in h))) ≡ true =
    all_in (λ k. is_weight (at (tabulate n (weight_in h)) k)) (length (tabulate n (weight_in h)))
    (λ k b. ap is_weight (at-tabulate n (weight_in h) k (omega arith)) ∙ weight_is (h k) (all-at (λ i. is_blended (h i)) n B k (omega arith))) in
    simp (eq-eqb (length (tabulate n (weight_in h))) n l, w)
points-left n ps false h B = refl

-- ---- a knot is put among those from place a on
module _ (a p n k : ℕ) (t : Float) (K : k < n) (w₀ w₃ : List Float) (l : a + (n + p + 1) < length w₀)
    (E : w₃ ≡ tabulate (a + (n + p + 1) + 1) (knot_at (a + k) t w₀) ++ drop (a + (n + p + 1) + 1) w₀) where
  abbrev run : List Float
  run = tabulate (a + (n + p + 1) + 1) (knot_at (a + k) t w₀)

  long-run : length run ≡ a + (n + p + 1) + 1
  long-run = length-tabulate (a + (n + p + 1) + 1) (knot_at (a + k) t w₀)

  put_in : (j : ℕ) → j < a + (n + p + 1) + 1 → at w₃ j ≡ knot_at (a + k) t w₀ j
  put_in j b =
      ap (λ (xs : List Float). at xs j) E
      ∙ (get_or-append run (drop (a + (n + p + 1) + 1) w₀) nan j (omega (arith, long-run)) ∙ at-tabulate (a + (n + p + 1) + 1) (knot_at (a + k) t w₀) j b)

  pub put_low : (j : ℕ) → j ≤ a + k → at w₃ j ≡ at w₀ j
  put_low j b = put_in j (omega arith) ∙ sym (knot-low (a + k) t w₀ j b)

  pub put-high : (j : ℕ) → a + (n + p + 1) + 1 ≤ j → at w₃ j ≡ at w₀ j
  put-high j b =
      let e : j ≡ length run + (j - (a + (n + p + 1) + 1)) = omega (arith, long-run) in
      let f : a + (n + p + 1) + 1 + (j - (a + (n + p + 1) + 1)) ≡ j = omega arith in
      ap₂ at E e
      ∙ (get_or-append-add run (drop (a + (n + p + 1) + 1) w₀) (j - (a + (n + p + 1) + 1)) nan ∙ (get_or-drop (a + (n + p + 1) + 1) w₀ (j - (a + (n + p + 1) + 1)) nan ∙ ap (at w₀) f))

  pub put-knots : length w₃ ≡ length w₀ → knots_from a p (n + 1) w₃ ≡ more_knots k t (knots_from a p n w₀)
  unfolding more_knots
  put-knots L =
      ext_get_or nan (knots_from a p (n + 1) w₃) (tabulate (length KS + 1) (knot_at k t KS))
      (long ∙ sym (length-tabulate (length KS + 1) (knot_at k t KS) ∙ ap (λ (i : ℕ). i + 1) long-ks))
      (λ j b.
      let c : j < n + p + 1 + 1 = omega (arith, long) in
      knot-from a p (n + 1) w₃ j (omega arith)
      ∙ (put_in (a + j) (omega arith) ∙ (shifted j c ∙ sym (at-tabulate (length KS + 1) (knot_at k t KS) j (omega (arith, long-ks))))))
    where
      KS : List Float
      KS = knots_from a p n w₀

      long-ks : length KS ≡ n + p + 1
      long-ks = length-take (n + p + 1) (drop a w₀) ∙ omega (arith, length-drop a w₀)

      long : length (knots_from a p (n + 1) w₃) ≡ n + p + 1 + 1
      long = length-take (n + 1 + p + 1) (drop a w₃) ∙ omega (arith, length-drop a w₃)

      shifted : (j : ℕ) → j < n + p + 1 + 1 → knot_at (a + k) t w₀ (a + j) ≡ knot_at k t KS j
      shifted j b = ⊎_elim (λ (c : j < k + 1). sym (knot-low (a + k) t w₀ (a + j) (omega arith)) ∙ (sym (knot-from a p n w₀ j (omega arith)) ∙ knot-low k t KS j (omega arith)))
          (λ (c : k + 1 ≤ j). ⊎_elim
          (λ (d : j < k + 1 + 1).
          let e : j ≡ k + 1 = omega arith in
          let f : a + j ≡ a + k + 1 = omega arith in
          ap (knot_at (a + k) t w₀) f ∙ (sym (knot-here (a + k) t w₀) ∙ (knot-here k t KS ∙ ap (knot_at k t KS) (sym e))))
          (λ (d : k + 1 + 1 ≤ j).
          let e : j ≡ j - 1 + 1 = omega arith in
          let f : a + j ≡ a + (j - 1) + 1 = omega arith in
          ap (knot_at (a + k) t w₀) f
          ∙ (sym (knot-high (a + k) t w₀ (a + (j - 1)) (omega arith)) ∙ (sym (knot-from a p n w₀ (j - 1) (omega arith)) ∙ (knot-high k t KS (j - 1) (omega arith) ∙ ap (knot_at k t KS) (sym e)))))
          (lt-or-ge j (k + 1 + 1)))
          (lt-or-ge j (k + 1))
