-- `insertion::list::insert_many` meets its contract.
-- Assumes nothing.
use Rattle.insertion.proofs.Folds.{InTurns}
use Prim.Native.Nat.{◌-◌}
use lib.ListN.{replicate}
use Rattle.insertion.proofs.list.insert_many.Given as goal

abbrev pub invariant-loop-j : goal.invariant-loop-j
invariant-loop-j l = InTurns l.a l.p l.rational l.n l.m (replicate l.m l.t) (λ k. replicate (l.m - k) l.t) l.initial.work l.work l.j
