-- `insertion::list::insert_all` meets its contract.
-- Assumes nothing.
use lib.ListN.{length, drop}
use Rattle.insertion.proofs.Folds.{InTurns}
use Rattle.insertion.proofs.list.insert_all.Given as goal

abbrev pub invariant-loop-i : goal.invariant-loop-i
invariant-loop-i l = InTurns l.a l.p l.rational l.n (length l.inserted) l.inserted (λ k. drop k l.inserted) l.initial.work l.work l.i
