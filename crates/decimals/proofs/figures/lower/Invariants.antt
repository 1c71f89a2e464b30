-- A pass from the most significant figure down, with a rest.
-- Assumes nothing.
use lib.ListN.{length}
use Rattle.decimals.specs.Figures.{number}
use Rattle.decimals.proofs.Passes.{Lowering}
use Rattle.decimals.proofs.figures.lower.Given as goal

abbrev pub invariant-loop-i : goal.invariant-loop-i
invariant-loop-i l = Lowering (number l.initial.run) l.g (length l.initial.run) l.run l.rest l.i
