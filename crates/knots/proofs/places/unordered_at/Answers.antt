-- `knots::places::unordered_at` meets its contract: a fall is said only where all numbers are finite.
-- Assumes nothing.
use mathlib.Core.Path.{sym, subst}
use Prim.Native.Nat.{ℕ, ◌≤◌, ◌<◌}
use native.Mathlib.Omega.{arith}
use lib.ListN.{length}
use lib.Ieee.Scale.{finite}
use Rattle.doubles.specs.Run.{at}
use Rattle.knots.specs.Knots.{all_finite, unordered_at}
use Rattle.knots.proofs.Below.{off-within, off-below, off-end}
use Rattle.knots.proofs.places.unordered_at.Goals as goal

pub returns-then-non_finite-xs : goal.returns-then-non_finite-xs
unfolding unordered_at all_finite
returns-then-non_finite-xs c = let xs = c.args.xs.now in
    let h = c.non_finite_at-non_finite.ensures in
    let below = subst (λ (i : ℕ). i ≤ length xs) (sym h) (off-below (λ k. finite (at xs k)) (length xs)) in
    rw (off-within (λ k. finite (at xs k)) (length xs) (subst (λ (i : ℕ). i < length xs) h (omega arith))) h

pub returns : goal.returns
unfolding unordered_at all_finite
returns c = let xs = c.args.xs.now in
    let h = c.non_finite_at-non_finite.ensures in
    rw (off-end (λ k. finite (at xs k)) (length xs) (subst (λ (i : ℕ). length xs ≤ i) h (omega arith))) c.first_pair.ensures
