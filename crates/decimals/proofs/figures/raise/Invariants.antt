-- A pass from the least significant figure up, with a carry.
-- Assumes nothing.
use lib.ListN.{length}
use Prim.Native.Nat.{◌+◌, ◌*◌}
use Rattle.decimals.specs.Figures.{number}
use Rattle.decimals.proofs.Passes.{Raising}
use Rattle.decimals.proofs.figures.raise.Given as goal

abbrev pub invariant-loop-d : goal.invariant-loop-d
invariant-loop-d l = Raising (number l.initial.run * l.f + l.c) l.f (length l.initial.run) l.run l.carry l.d-index
