-- `knots::numbers::all_fine` meets its contract: the numbers passed are fine.
-- Assumes nothing.
use mathlib.Core.Path.{◌≡◌}
use lib.Ieee.Scale.{finite}
use Rattle.doubles.specs.Run.{at}
use Rattle.knots.specs.Below.{all_below}
use Rattle.knots.specs.Fine.{above as above_of}
use Rattle.knots.proofs.numbers.all_fine.Given as goal

abbrev pub invariant-loop-x : goal.invariant-loop-x
invariant-loop-x l = record {
  finite : l.finite ≡ all_below (λ k. finite (at l.xs k)) l.x-index;
  above : l.above ≡ all_below (λ k. above_of l.weight (at l.xs k)) l.x-index;
}
