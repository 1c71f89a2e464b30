-- The breaks of a clamped curve: where they lie, and how many knots they are.
-- Assumes nothing.
use Prim.Native.Nat.{ℕ, zero, suc, ◌+◌, ◌-◌, ◌≤◌, ◌<◌}
use mathlib.Core.Bool.{Bool, true, false, cond}
use mathlib.Core.Path.{◌≡◌, refl, ◌∙◌, ap, subst}
use mathlib.Core.List.{List, [], ◌∷◌}
use native.Mathlib.Omega.{arith}
use native.Mathlib.Nat.{add-zero}
use lib.ListN.{length}
use lib.Ieee.{Float, lt, eq}
use lib.Ieee.Scale.{finite}
use Rattle.doubles.specs.Run.{at}
use Rattle.doubles.proofs.TestedOrder.{ge-lt-trans, lt-ge-trans}
use Rattle.knots.specs.Knots.{ValidKnots}
use Rattle.knots.proofs.Valid.{sorted}
use Rattle.edits.specs.Counts.{bit, count_below, multiplicity_of}
use Rattle.edits.specs.Start.{clamped_ends}
use Rattle.insertion.proofs.Grown.{count-run}
use Rattle.insertion.proofs.KnotCounts.{gt-not-eq, lt-not-eq, below_by, count-early, eq_self, eq-same, eq-sym, eq-lt-left, eq-lt-right, multiplicity-most, clamped_low, clamped_high}
use Rattle.insertion.specs.Placed.{Each}
use Rattle.elevation.specs.Breaks.{breaks_from, breaks_of}

-- ---- what holds of each knot that differs from the one before it holds of each break
pub breaks-each : (P : Float → Type 0) (ks : List Float) (i m : ℕ) → ((j : ℕ) → i ≤ j → j < i + m → eq (at ks (j - 1)) (at ks j) ≡ false → P (at ks j)) → Each P (breaks_from ks i m)
unfolding breaks_from
breaks-each P ks i zero h = tt
breaks-each P ks i (suc m) h = go (eq (at ks (i - 1)) (at ks i)) refl (breaks-each P ks (suc i) m (λ j a b. h j (omega arith) (omega arith)))
  where
    go : (x : Bool) → eq (at ks (i - 1)) (at ks i) ≡ x → Each P (breaks_from ks (suc i) m) → Each P (cond x (breaks_from ks (suc i) m) (at ks i ∷ breaks_from ks (suc i) m))
    go true e r = r
    go false e r = (h i (omega arith) (omega arith) e, r)

-- each number of a list is below all after it
abbrev pub Rising : List Float → Type 0
Rising [] = Unit
Rising (t ∷ ts) = Each (λ u. lt t u ≡ true) ts × Rising ts

pub each-zip : (P Q : Float → Type 0) (ts : List Float) → Each P ts → Each Q ts → Each (λ t. P t × Q t) ts
each-zip P Q [] a b = tt
each-zip P Q (t ∷ ts) a b = ((a.0, b.0), each-zip P Q ts a.1 b.1)

-- ---- how many of the m places from i on pass a test
unfoldable count_from : (ℕ → Bool) → ℕ → ℕ → ℕ
count_from f i zero = 0
count_from f i (suc m) = bit (f i) + count_from f (suc i) m

count-split : (f : ℕ → Bool) (i m : ℕ) → count_below f (i + m) ≡ count_below f i + count_from f i m
unfolding count_below count_from
count-split f i zero = ap (count_below f) (add-zero i) ∙ omega arith
count-split f i (suc m) = let e : i + suc m ≡ suc i + m = omega arith in ap (count_below f) e ∙ omega (arith, count-split f (suc i) m)

from-none : (f : ℕ → Bool) (i m : ℕ) → ((j : ℕ) → i ≤ j → j < i + m → f j ≡ false) → count_from f i m ≡ 0
unfolding count_from
from-none f i zero h = refl
from-none f i (suc m) h = let z : bit (f i) ≡ 0 = ap bit (h i (omega arith) (omega arith)) in omega (arith, from-none f (suc i) m (λ j a b. h j (omega arith) (omega arith)))

from-cong : (f g : ℕ → Bool) (i m : ℕ) → ((j : ℕ) → i ≤ j → j < i + m → f j ≡ g j) → count_from f i m ≡ count_from g i m
unfolding count_from
from-cong f g i zero h = refl
from-cong f g i (suc m) h = let z : bit (f i) ≡ bit (g i) = ap bit (h i (omega arith) (omega arith)) in omega (arith, from-cong f g (suc i) m (λ j a b. h j (omega arith) (omega arith)))

-- how many knots the numbers of a list are
unfoldable pub times_all : List Float → List Float → ℕ
times_all ks [] = 0
times_all ks (t ∷ ts) = multiplicity_of ks t + times_all ks ts

-- what a break is
pub record IsBreak (p n : ℕ) (ks : List Float) (t : Float) : Type 0 where
  pub number : finite t ≡ true
  pub low : lt (at ks p) t ≡ true
  pub high : lt t (at ks n) ≡ true
  pub present : 1 ≤ multiplicity_of ks t
  pub most : multiplicity_of ks t ≤ p + 1

module _ (p n : ℕ) (ks : List Float) (v : ValidKnots p n ks) where
  fins : (j : ℕ) → j < n → finite (at ks j) ≡ true
  fins j l = let L = v.long in v.finites j (omega arith)

  -- the knot before a start is below it
  start-above : (i : ℕ) → i < n → eq (at ks (i - 1)) (at ks i) ≡ false → lt (at ks (i - 1)) (at ks i) ≡ true
  start-above i l e = let L = v.long in below_by (at ks (i - 1)) (at ks i) (fins (i - 1) (omega arith)) (fins i l) e (sorted p n ks v (i - 1) i (omega arith) (omega arith))

  -- and so is every one before it
  start-past : (i j : ℕ) → i < j → j < n → eq (at ks (j - 1)) (at ks j) ≡ false → lt (at ks i) (at ks j) ≡ true
  start-past i j a l e =
      let L = v.long in
      ge-lt-trans (at ks i) (at ks (j - 1)) (at ks j) (fins i (omega arith)) (sorted p n ks v i (j - 1) (omega arith) (omega arith)) (start-above j l e)

  pub breaks-rise : (i m : ℕ) → i + m ≤ n → Rising (breaks_from ks i m)
  unfolding breaks_from
  breaks-rise i zero l = tt
  breaks-rise i (suc m) l = go (eq (at ks (i - 1)) (at ks i)) (breaks-rise (suc i) m (omega arith))
    where
      go : (x : Bool) → Rising (breaks_from ks (suc i) m) → Rising (cond x (breaks_from ks (suc i) m) (at ks i ∷ breaks_from ks (suc i) m))
      go true r = r
      go false r = (breaks-each (λ u. lt (at ks i) u ≡ true) ks (suc i) m (λ j a b e. start-past i j (omega arith) (omega arith) e), r)

  pub distinct : Rising (breaks_of p n ks)
  unfolding breaks_of
  distinct = let C = v.count in breaks-rise (p + 1) (n - (p + 1)) (omega arith)

  module _ (c : clamped_ends p n ks ≡ true) where
    -- no inner knot equals an end
    above_low : (j : ℕ) → p < j → j < length ks → lt (at ks p) (at ks j) ≡ true
    above_low j a l =
        let C = v.count in
        let P = fins p (omega arith) in
        let Z = fins 0 (omega arith) in
        let J = v.finites j l in
        eq-lt-left (at ks 0) (at ks p) Z P (clamped_low p n ks v c 0 (omega arith)) (at ks j) J
        (lt-ge-trans (at ks 0) (at ks (0 + (p + 1))) (at ks j) J (v.multiplicity 0 (omega arith)) (sorted p n ks v (0 + (p + 1)) j (omega arith) l))

    below-high : (i : ℕ) → i < n → lt (at ks i) (at ks n) ≡ true
    below-high i l =
        let L = v.long in
        let N = v.finites n (omega arith) in
        let E = v.finites (n + p) (omega arith) in
        let I = fins i l in
        let e : n - 1 + (p + 1) ≡ n + p = omega arith in
        let m : lt (at ks (n - 1)) (at ks (n + p)) ≡ true = subst (λ (j : ℕ). lt (at ks (n - 1)) (at ks j) ≡ true) e (v.multiplicity (n - 1) (omega arith)) in
        eq-lt-right (at ks (n + p)) (at ks n) E N (clamped_high p n ks v c (n + p) (omega arith) (omega arith)) (at ks i) I
        (ge-lt-trans (at ks i) (at ks (n - 1)) (at ks (n + p)) I (sorted p n ks v i (n - 1) (omega arith) (omega arith)) m)

    knot-break : (j : ℕ) → p < j → j < n → IsBreak p n ks (at ks j)
    unfolding multiplicity_of
    knot-break j a b =
        let L = v.long in
        record {
          number = fins j b;
          low = above_low j a (omega arith);
          high = below-high j b;
          present = count-run (λ i. eq (at ks i) (at ks j)) j 1 (length ks) (omega arith)
              (λ i x y. let e : j ≡ i = omega arith in subst (λ (k : ℕ). eq (at ks k) (at ks j) ≡ true) e (eq_self (at ks j) (fins j b)));
          most = multiplicity-most p n ks v (at ks j);
        }

    pub breaks-are : Each (IsBreak p n ks) (breaks_of p n ks)
    unfolding breaks_of
    breaks-are = let C = v.count in breaks-each (IsBreak p n ks) ks (p + 1) (n - (p + 1)) (λ j a b e. knot-break j (omega arith) (omega arith))

    -- a break stands where it starts and then on
    start-times : (i m : ℕ) → p < i → i + suc m ≡ n → eq (at ks (i - 1)) (at ks i) ≡ false → multiplicity_of ks (at ks i) ≡ suc (count_from (λ j. eq (at ks j) (at ks i)) (suc i) m)
    unfolding multiplicity_of count_from
    start-times i m a q e =
        let L = v.long in
        let l : length ks ≡ i + suc m + (p + 1) = omega arith in
        let I = fins i (omega arith) in
        let before : count_below f i ≤ 0 = count-early f 0 i (λ j x y. lt-not-eq (at ks j) (at ks i) (start-past j i y (omega arith) e)) in
        let behind : count_from f (i + suc m) (p + 1) ≡ 0 = from-none f (i + suc m) (p + 1) (λ j x y.
        let J = v.finites j (omega arith) in
        gt-not-eq (at ks j) (at ks i) J I (lt-ge-trans (at ks i) (at ks n) (at ks j) J (below-high i (omega arith)) (sorted p n ks v n j (omega arith) (omega arith)))) in
        let here : bit (eq (at ks i) (at ks i)) ≡ 1 = ap bit (eq_self (at ks i) I) in
        ap (count_below f) l ∙ omega (arith, count-split f (i + suc m) (p + 1), count-split f i (suc m))
      where
        f : ℕ → Bool
        f j = eq (at ks j) (at ks i)

    -- the knots from i on are those of the breaks from i on, and those that still equal the knot before i
    walk : (i m : ℕ) → p < i → i + m ≡ n → times_all ks (breaks_from ks i m) + count_from (λ j. eq (at ks j) (at ks (i - 1))) i m ≡ m
    unfolding breaks_from times_all count_from
    walk i zero a q = omega arith
    walk i (suc m) a q =
        let e : suc i - 1 ≡ i = omega arith in
        go (eq (at ks (i - 1)) (at ks i)) refl
        (subst (λ (k : ℕ). times_all ks (breaks_from ks (suc i) m) + count_from (λ j. eq (at ks j) (at ks k)) (suc i) m ≡ m) e (walk (suc i) m (omega arith) (omega arith)))
      where
        go : (x : Bool) → eq (at ks (i - 1)) (at ks i) ≡ x → times_all ks (breaks_from ks (suc i) m) + count_from (λ j. eq (at ks j) (at ks i)) (suc i) m ≡ m
            → times_all ks (cond x (breaks_from ks (suc i) m) (at ks i ∷ breaks_from ks (suc i) m)) + count_from (λ j. eq (at ks j) (at ks (i - 1))) i (suc m) ≡ suc m
        go true e r =
            let X = fins (i - 1) (omega arith) in
            let Y = fins i (omega arith) in
            let one : bit (eq (at ks i) (at ks (i - 1))) ≡ 1 = ap bit (eq-sym (at ks (i - 1)) (at ks i) X Y e) in
            omega (arith, from-cong (λ j. eq (at ks j) (at ks (i - 1))) (λ j. eq (at ks j) (at ks i)) (suc i) m (λ j x y. eq-same (at ks (i - 1)) (at ks i) X Y e (at ks j) (fins j (omega arith))))
        go false e r =
            let L = v.long in
            let none = from-none (λ j. eq (at ks j) (at ks (i - 1))) i (suc m) (λ j x y.
            let J = fins j (omega arith) in
            gt-not-eq (at ks j) (at ks (i - 1)) J (fins (i - 1) (omega arith))
            (lt-ge-trans (at ks (i - 1)) (at ks i) (at ks j) J (start-above i (omega arith) e) (sorted p n ks v i j x (omega arith)))) in
            omega (arith, start-times i m a q e, none)

    -- every inner knot is one of a break
    pub breaks-times : times_all ks (breaks_of p n ks) + (p + 1) ≡ n
    unfolding breaks_of
    breaks-times =
        let C = v.count in
        let L = v.long in
        let e : p + 1 - 1 ≡ p = omega arith in
        let w = subst (λ (k : ℕ). times_all ks (breaks_from ks (p + 1) (n - (p + 1))) + count_from (λ j. eq (at ks j) (at ks k)) (p + 1) (n - (p + 1)) ≡ n - (p + 1)) e
        (walk (p + 1) (n - (p + 1)) (omega arith) (omega arith)) in
        let none = from-none (λ j. eq (at ks j) (at ks p)) (p + 1) (n - (p + 1))
        (λ j x y. gt-not-eq (at ks j) (at ks p) (fins j (omega arith)) (fins p (omega arith)) (above_low j (omega arith) (omega arith))) in
        omega arith
