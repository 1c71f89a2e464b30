-- Where the knots that equal a number stand, in a run that is in order.
-- Assumes nothing.
use Prim.Native.Nat.{ℕ, ◌+◌, ◌≤◌, ◌<◌}
use mathlib.Core.Bool.{Bool, true, not}
use mathlib.Core.Path.{◌≡◌, ap}
use mathlib.Core.List.{List}
use native.Mathlib.Omega.{arith}
use lib.ListN.{length}
use lib.Ieee.{Float, lt, eq}
use lib.Ieee.Scale.{finite}
use Rattle.doubles.specs.Run.{at, val_at}
use Rattle.doubles.specs.Value.{val}
use Rattle.doubles.proofs.TestFacts.{T_of}
use Rattle.doubles.proofs.TestedOrder.{lt-asym, lt-ge-trans}
use Rattle.doubles.proofs.Order.{val-eq}
use Rattle.knots.specs.Knots.{ValidKnots}
use Rattle.knots.proofs.Valid.{sorted}
use Rattle.edits.specs.Counts.{count_below, multiplicity_of, below_of}
use Rattle.insertion.proofs.KnotCounts.{refuted, count-within, count-early, lt-not-eq, level-eq, eq-level, below_rest, below-room}

-- the knots that equal u stand one after the other, behind those below it
pub equal-run : (p n : ℕ) (ks : List Float) → ValidKnots p n ks → (u : Float) → finite u ≡ true → (j : ℕ) → below_of ks u ≤ j → j < below_of ks u + multiplicity_of ks u → eq (at ks j) u ≡ true
unfolding below_of multiplicity_of
equal-run p n ks v u U j a b =
    let L : j < length ks = omega (arith, below-room ks u) in
    level-eq (at ks j) u (v.finites j L) U (below_rest p n ks v u j L a) (refuted (lt u (at ks j)) (λ h. omega (arith, upto, past L h)))
  where
    test : ℕ → Bool
    test i = not (lt u (at ks i))

    upto : count_below (λ i. lt (at ks i) u) (length ks) + count_below (λ i. eq (at ks i) u) (length ks) ≤ count_below test (length ks)
    upto = count-within (λ i. lt (at ks i) u) (λ i. eq (at ks i) u) test (length ks) (λ i l e. lt-not-eq (at ks i) u e) (λ i l e. ap not (lt-asym (at ks i) u e))
        (λ i l e. ap not (eq-level (at ks i) u (v.finites i l) U e).1)

    past : j < length ks → lt u (at ks j) ≡ true → count_below test (length ks) ≤ j
    past L h = count-early test j (length ks) (λ i x y. ap not (lt-ge-trans u (at ks j) (at ks i) (v.finites i y) h (sorted p n ks v j i x y)))

-- as fractions
pub equal-value : (p n : ℕ) (ks : List Float) → ValidKnots p n ks → (u : Float) → finite u ≡ true → (j : ℕ) → below_of ks u ≤ j → j < below_of ks u + multiplicity_of ks u → val_at ks j ≡ val u
equal-value p n ks v u U j a b =
    let L : j < length ks = omega (arith, below-room ks u) in
    val-eq (at ks j) u (T_of _ (v.finites j L)) (T_of _ U) (T_of _ (equal-run p n ks v u U j a b))
