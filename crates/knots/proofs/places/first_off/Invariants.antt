-- `knots::places::first_off` meets its contract: all numbers before the place reached are fine.
-- Assumes nothing.
use mathlib.Core.Path.{◌≡◌}
use mathlib.Core.Bool.{true}
use Rattle.doubles.specs.Run.{at}
use Rattle.knots.specs.Below.{all_below}
use Rattle.knots.specs.Fine.{fine as fine_of}
use Rattle.knots.proofs.places.first_off.Given as goal

abbrev pub invariant-loop-i : goal.invariant-loop-i
invariant-loop-i l = all_below (λ k. fine_of l.weight (at l.xs k)) l.i ≡ true
