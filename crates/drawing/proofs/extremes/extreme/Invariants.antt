-- `drawing::extremes::extreme` meets its contract.
-- Assumes nothing.
use mathlib.Core.Path.{◌≡◌}
use Rattle.drawing.proofs.Outermost.{extreme_from}
use Rattle.runs.specs.Coordinate.{coordinate}
use Rattle.drawing.proofs.extremes.extreme.Given as goal

abbrev pub invariant-loop-i : goal.invariant-loop-i
invariant-loop-i l = l.found ≡ extreme_from l.up (λ j. coordinate l.points j l.k) l.i
