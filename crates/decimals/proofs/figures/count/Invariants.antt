-- Figures that are 0 are left out from the top.
-- Assumes nothing.
use Prim.Native.Nat.{◌^◌, ◌<◌}
use Rattle.decimals.specs.Figures.{number}
use Rattle.decimals.proofs.figures.count.Given as goal

abbrev pub invariant-loop-i : goal.invariant-loop-i
invariant-loop-i l = number l.run < 10 ^ l.i
