-- Valid knots with a knot more are valid, where it lies inside the domain and has not its full multiplicity: 1 to 7 of a formed curve are never given.
-- Assumes nothing.
use Prim.Native.Nat.{ℕ, zero, suc, ◌+◌, ◌-◌, ◌≤◌, ◌<◌}
use mathlib.Core.Bool.{Bool, true, false, ◌||◌}
use mathlib.Core.Path.{◌≡◌, refl, sym, ◌∙◌, ap, ap₂, subst}
use mathlib.Core.Logic.{⊎_elim}
use mathlib.Core.List.{List}
use native.Mathlib.Omega.{arith}
use lib.ListN.{length}
use lib.Ieee.{Float, binary64, sub, lt, le, eq}
use lib.Ieee.Scale.{finite}
use Rattle.doubles.specs.Run.{at}
use Rattle.doubles.proofs.TestedOrder.{lt-asym, ge_trans, lt-ge-trans, ge-lt-trans, le-gives, ge-le}
use Rattle.knots.specs.Knots.{ValidKnots}
use Rattle.knots.specs.Curve.{control_refusal, formed_refusal}
use Rattle.knots.specs.Span.{SpanAt}
use Rattle.knots.proofs.Valid.{sorted, not-refused}
use Rattle.runs.proofs.Tabulated.{at-tabulate, length-tabulate}
use Rattle.runs.proofs.Cases.{lt-or-ge}
use Rattle.edits.specs.Counts.{bit, count_below, multiplicity_of}
use Rattle.insertion.specs.Insert.{knot_at, more_knots}
use Rattle.insertion.proofs.Storing.{knot-low, knot-here, knot-high}

-- ---- places that pass one after the other are counted
pub count-run : (f : ℕ → Bool) (a m n : ℕ) → a + m ≤ n → ((i : ℕ) → a ≤ i → i < a + m → f i ≡ true) → m ≤ count_below f n
unfolding count_below
count-run f a zero n l h = omega arith
count-run f a (suc m) zero l h = absurd (omega arith)
count-run f a (suc m) (suc n) l h = ⊎_elim
    (λ (b : a + suc m < suc n). omega (arith, count-run f a (suc m) n (omega arith) h))
    (λ (b : suc n ≤ a + suc m).
    let B : bit (f n) ≡ 1 = ap bit (h n (omega arith) (omega arith)) in
    omega (arith, count-run f a m n (omega arith) (λ i x y. h i x (omega arith))))
    (lt-or-ge (a + suc m) (suc n))

-- not above and not below
equal : (x y : Float) → le x y ≡ true → lt x y ≡ false → eq x y ≡ true
unfolding le
equal x y h k = go (lt x y) (eq x y) k h
  where
    go : (a b : Bool) → a ≡ false → (a || b) ≡ true → b ≡ true
    go true b e f = cc
    go false b e f = f

module _ (p n : ℕ) (ks : List Float) (v : ValidKnots p n ks) (t : Float) (T : finite t ≡ true) (k : ℕ) (S : SpanAt p n ks t k) (low : lt (at ks p) t ≡ true) (high : lt t (at ks n) ≡ true) where
  from : p ≤ k
  from = S.from

  below : k < n
  below = S.below

  long : length ks ≡ n + p + 1
  long = v.long

  fins : (j : ℕ) → j < length ks → finite (at ks j) ≡ true
  fins = v.finites

  under : lt t (at ks k) ≡ false
  under = le-gives (at ks k) t (fins k (omega (arith, long, below))) T (S.inside high).0

  over : lt t (at ks (k + 1)) ≡ true
  over = (S.inside high).1

  -- a knot up to k is not above t, and t is below one after it
  not-above : (i : ℕ) → i ≤ k → lt t (at ks i) ≡ false
  not-above i l = ge_trans t (at ks k) (at ks i) (fins k (omega (arith, long, below))) under (sorted p n ks v i k l (omega (arith, long, below)))

  is_below : (i : ℕ) → k + 1 ≤ i → i < length ks → lt t (at ks i) ≡ true
  is_below i l b = lt-ge-trans t (at ks (k + 1)) (at ks i) (fins i b) over (sorted p n ks v (k + 1) i l b)

  -- ---- the new run by its places
  grown-long : length (more_knots k t ks) ≡ length ks + 1
  unfolding more_knots
  grown-long = length-tabulate (length ks + 1) (knot_at k t ks)

  place : (j : ℕ) → j < length ks + 1 → at (more_knots k t ks) j ≡ knot_at k t ks j
  unfolding more_knots
  place j l = at-tabulate (length ks + 1) (knot_at k t ks) j l

  before : (j : ℕ) → j ≤ k → at ks j ≡ at (more_knots k t ks) j
  before j l = knot-low k t ks j l ∙ sym (place j (omega (arith, long, below)))

  here : t ≡ at (more_knots k t ks) (k + 1)
  here = knot-here k t ks ∙ sym (place (k + 1) (omega (arith, long, below)))

  behind : (j : ℕ) → k + 1 ≤ j → j < length ks → at ks j ≡ at (more_knots k t ks) (j + 1)
  behind j l b = knot-high k t ks j l ∙ sym (place (j + 1) (omega arith))

  -- what holds of the knots up to k, of t, and of those after k, holds of every place
  module _ (P : ℕ → Float → Type 0) (x : (j : ℕ) → j ≤ k → P j (at ks j)) (y : P (k + 1) t) (z : (j : ℕ) → k + 1 ≤ j → j < length ks → P (j + 1) (at ks j)) where
    everywhere : (j : ℕ) → j < length ks + 1 → P j (at (more_knots k t ks) j)
    everywhere j l = ⊎_elim
        (λ (a : j < k + 1). subst (P j) (before j (omega arith)) (x j (omega arith)))
        (λ (a : k + 1 ≤ j). ⊎_elim
        (λ (b : j < k + 2).
        let e : k + 1 ≡ j = omega arith in
        subst (λ (i : ℕ). P i (at (more_knots k t ks) i)) e (subst (P (k + 1)) here y))
        (λ (b : k + 2 ≤ j).
        let e : j - 1 + 1 ≡ j = omega arith in
        subst (λ (i : ℕ). P i (at (more_knots k t ks) i)) e (subst (P (j - 1 + 1)) (behind (j - 1) (omega arith) (omega arith)) (z (j - 1) (omega arith) (omega arith))))
        (lt-or-ge j (k + 2)))
        (lt-or-ge j (k + 1))

  grown-finites : (j : ℕ) → j < length ks + 1 → finite (at (more_knots k t ks) j) ≡ true
  grown-finites = everywhere (λ j x. finite x ≡ true) (λ j l. fins j (omega (arith, long, below))) T (λ j l b. fins j b)

  grown-rises : (j : ℕ) → j + 1 < length ks + 1 → lt (at (more_knots k t ks) (j + 1)) (at (more_knots k t ks) j) ≡ false
  grown-rises j l =
      everywhere (λ i x. i + 1 < length ks + 1 → lt (at (more_knots k t ks) (i + 1)) x ≡ false)
      (λ i a b. ⊎_elim
      (λ (c : i < k). subst (λ (x : Float). lt x (at ks i) ≡ false) (before (i + 1) (omega arith)) (v.rises i (omega arith)))
      (λ (c : k ≤ i).
      let e : k ≡ i = omega arith in
      subst (λ (m : ℕ). lt (at (more_knots k t ks) (m + 1)) (at ks m) ≡ false) e (subst (λ (x : Float). lt x (at ks k) ≡ false) here under))
      (lt-or-ge i k))
      (λ b. subst (λ (x : Float). lt x t ≡ false) (behind (k + 1) (omega arith) (omega arith)) (lt-asym t (at ks (k + 1)) over))
      (λ i a b c. subst (λ (x : Float). lt x (at ks i) ≡ false) (behind (i + 1) (omega arith) (omega arith)) (v.rises i (omega arith)))
      j (omega arith) l

  module _ (M : multiplicity_of ks t ≤ p) where
    -- p + 1 knots that end at k are not all t
    not_full : (j : ℕ) → j + p ≡ k → lt (at ks j) t ≡ true
    unfolding multiplicity_of
    not_full j e = go (lt (at ks j) t) refl
      where
        same : lt (at ks j) t ≡ false → (i : ℕ) → j ≤ i → i < j + (p + 1) → eq (at ks i) t ≡ true
        same f i a b =
            let L : i < length ks = omega (arith, long, below) in
            equal (at ks i) t (ge-le (at ks i) t (fins i L) T (not-above i (omega arith)))
            (ge_trans (at ks i) (at ks j) t (fins j (omega arith)) (sorted p n ks v j i a L) f)

        go : (x : Bool) → lt (at ks j) t ≡ x → lt (at ks j) t ≡ true
        go true f = f
        go false f = absurd (omega (arith, count-run (λ i. eq (at ks i) t) j (p + 1) (length ks) (omega (arith, long, below)) (same f)))

    grown-apart : (j : ℕ) → j + (p + 1) < length ks + 1 → lt (at (more_knots k t ks) j) (at (more_knots k t ks) (j + (p + 1))) ≡ true
    grown-apart j l =
        everywhere (λ i x. i + (p + 1) < length ks + 1 → lt x (at (more_knots k t ks) (i + (p + 1))) ≡ true)
        (λ i a b. ⊎_elim
        (λ (c : i + (p + 1) < k + 1). subst (λ (x : Float). lt (at ks i) x ≡ true) (before (i + (p + 1)) (omega arith)) (v.multiplicity i (omega (arith, long, below))))
        (λ (c : k + 1 ≤ i + (p + 1)). ⊎_elim
        (λ (d : i + p < k + 1).
        let e : k + 1 ≡ i + (p + 1) = omega arith in
        subst (λ (m : ℕ). lt (at ks i) (at (more_knots k t ks) m) ≡ true) e (subst (λ (x : Float). lt (at ks i) x ≡ true) here (not_full i (omega arith))))
        (λ (d : k + 1 ≤ i + p).
        let e : i + p + 1 ≡ i + (p + 1) = omega arith in
        subst (λ (m : ℕ). lt (at ks i) (at (more_knots k t ks) m) ≡ true) e
        (subst (λ (x : Float). lt (at ks i) x ≡ true) (behind (i + p) d (omega arith))
        (ge-lt-trans (at ks i) t (at ks (i + p)) (fins i (omega arith)) (not-above i a) (is_below (i + p) d (omega arith)))))
        (lt-or-ge (i + p) (k + 1)))
        (lt-or-ge (i + (p + 1)) (k + 1)))
        (λ b.
        let e : k + 1 + p + 1 ≡ k + 1 + (p + 1) = omega arith in
        subst (λ (m : ℕ). lt t (at (more_knots k t ks) m) ≡ true) e
        (subst (λ (x : Float). lt t x ≡ true) (behind (k + 1 + p) (omega arith) (omega arith)) (is_below (k + 1 + p) (omega arith) (omega arith))))
        (λ i a b c.
        let e : i + (p + 1) + 1 ≡ i + 1 + (p + 1) = omega arith in
        subst (λ (m : ℕ). lt (at ks i) (at (more_knots k t ks) m) ≡ true) e
        (subst (λ (x : Float). lt (at ks i) x ≡ true) (behind (i + (p + 1)) (omega arith) (omega arith)) (v.multiplicity i (omega arith))))
        j (omega arith) l

    pub grown-valid : ValidKnots p (n + 1) (more_knots k t ks)
    grown-valid =
        let g = grown-long in
        let l = long in
        let c = v.count in
        let a = before p from in
        let b = behind n (omega (arith, below)) (omega arith) in
        record {
          degree = v.degree;
          count = omega arith;
          long = omega arith;
          finites = λ j h. grown-finites j (omega arith);
          rises = λ j h. grown-rises j (omega arith);
          domain = subst (λ (x : Float). lt x (at (more_knots k t ks) (n + 1)) ≡ true) a (subst (λ (x : Float). lt (at ks p) x ≡ true) b v.domain);
          width = ap₂ (λ (x y : Float). finite (sub binary64 y x)) (sym a) (sym b) ∙ v.width;
          multiplicity = λ j h. grown-apart j (omega arith);
        }

-- of valid knots only 8 to 10 are left
pub controls-left : (p n : ℕ) (ks ps : List Float) (g : Bool) (ws : List Float) → ValidKnots p n ks → control_refusal n ps g ws ≡ formed_refusal p n ks ps g ws
unfolding formed_refusal
controls-left p n ks ps g ws v = simp (not-refused p n ks v)
