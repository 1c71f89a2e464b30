-- `knots::walk::next_from` meets its contract: what is left to search starts at the place reached.
-- Assumes nothing.
use mathlib.Core.Path.{◌≡◌}
use Rattle.knots.specs.Walk.{first_from}
use Rattle.knots.proofs.walk.next_from.Given as goal

abbrev pub invariant-loop-span : goal.invariant-loop-span
invariant-loop-span l = first_from l.count l.knots l.«from» ≡ first_from l.count l.knots l.span
