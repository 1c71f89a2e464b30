-- `edits::counts::count` meets its contract.
-- Assumes nothing.
use mathlib.Core.Path.{◌≡◌}
use mathlib.Core.Bool.{cond}
use lib.Ieee.{eq, lt}
use Rattle.doubles.specs.Run.{at}
use Rattle.edits.specs.Counts.{count_below}
use Rattle.edits.proofs.counts.count.Given as goal

abbrev pub invariant-loop-x : goal.invariant-loop-x
invariant-loop-x l = l.n ≡ count_below (λ j. cond l.equal (eq (at l.knots j) l.t) (lt (at l.knots j) l.t)) l.x-index
