-- The extracted knots, in which each break and both ends stand degree + 1 times: segment j is at place j (degree + 1).
-- Assumes nothing.
use Prim.Native.Nat.{ℕ, ◌+◌, ◌*◌, ◌≤◌, ◌<◌}
use mathlib.Core.Bool.{true}
use mathlib.Core.Path.{◌≡◌}
use mathlib.Core.List.{List, [], ◌∷◌}
use native.Mathlib.Omega.{arith}
use lib.ListN.{length}
use lib.Ieee.{Float, lt}
use lib.Ieee.Scale.{finite}
use Rattle.exact.specs.Bernstein.{Segment}
use Rattle.doubles.specs.Run.{val_at}
use Rattle.doubles.specs.Value.{val}
use Rattle.knots.specs.Knots.{ValidKnots}
use Rattle.edits.specs.Counts.{multiplicity_of, below_of}
use Rattle.insertion.proofs.KnotCounts.{below-past, below-room}
use Rattle.insertion.proofs.EqualKnots.{equal-value}

module _ (p n : ℕ) (ks : List Float) (v : ValidKnots p n ks) (hi : Float) (H : finite hi ≡ true) (full-high : multiplicity_of ks hi ≡ p + 1) where
  -- a is below the first of the breaks bs, each below the next, and the last below hi; all are full
  abbrev pub Rise : Float → List Float → Type 0
  Rise a [] = lt a hi ≡ true
  Rise a (t ∷ ts) = (lt a t ≡ true) × (finite t ≡ true) × (multiplicity_of ks t ≡ p + 1) × Rise t ts

  pub record OnFull (a : Float) (j : ℕ) (bs : List Float) : Type 0 where
    pub number : finite a ≡ true
    pub full : multiplicity_of ks a ≡ p + 1
    pub rise : Rise a bs
    pub from : j * (p + 1) ≤ below_of ks a
    pub total : below_of ks hi ≤ (j + (length bs + 1)) * (p + 1)

  chain : (a : Float) (bs : List Float) → finite a ≡ true → multiplicity_of ks a ≡ p + 1 → Rise a bs → below_of ks a + (length bs + 1) * (p + 1) ≤ below_of ks hi
  chain a [] F M R = omega (arith, below-past p n ks v a hi F R)
  chain a (t ∷ bs) F M R = omega (arith, below-past p n ks v a t F R.0, chain t bs R.1 R.2 R.3)

  pub full-place : (a : Float) (j : ℕ) (bs : List Float) → OnFull a j bs → below_of ks a ≡ j * (p + 1)
  full-place a j bs O = omega (arith, chain a bs O.number O.full O.rise, O.from, O.total)

  pub full-next : (a : Float) (j : ℕ) (t : Float) (bs : List Float) → OnFull a j (t ∷ bs) → OnFull t (j + 1) bs
  full-next a j t bs O =
      let R = O.rise in
      record { number = R.1; full = R.2; rise = R.3; from = omega (arith, below-past p n ks v a t O.number R.0, O.full, O.from); total = omega (arith, O.total) }

  -- from a to the number after it
  between : (a z : Float) (j : ℕ) → finite a ≡ true → finite z ≡ true → multiplicity_of ks a ≡ p + 1 → multiplicity_of ks z ≡ p + 1 → below_of ks a ≡ j * (p + 1) → below_of ks z ≡ (j + 1) * (p + 1)
      → Segment (val_at ks) (val a) (val z) p (j * (p + 1))
  between a z j A Z M N b c = record {
    left = λ i x y. equal-value p n ks v a A (j * (p + 1) + i) (omega arith) (omega arith);
    right = λ i x y. equal-value p n ks v z Z (j * (p + 1) + i) (omega arith) (omega arith);
  }

  pub full-one : (a : Float) (j : ℕ) (t : Float) (bs : List Float) → OnFull a j (t ∷ bs) → Segment (val_at ks) (val a) (val t) p (j * (p + 1))
  full-one a j t bs O =
      let T = full-next a j t bs O in
      between a t j O.number T.number O.full T.full (full-place a j (t ∷ bs) O) (full-place t (j + 1) bs T)

  pub full-last : (a : Float) (j : ℕ) → OnFull a j [] → Segment (val_at ks) (val a) (val hi) p (j * (p + 1))
  full-last a j O =
      let b = full-place a j [] O in
      between a hi j O.number H O.full full-high b (omega (arith, below-past p n ks v a hi O.number O.rise, O.full, O.total))

  pub full-inner : (a : Float) (j : ℕ) (bs : List Float) → OnFull a j bs → j * (p + 1) + p < n
  full-inner a j bs O = let l = v.long in omega (arith, chain a bs O.number O.full O.rise, O.from, below-room ks hi)
