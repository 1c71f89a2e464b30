-- `elevation::raise::raise_rows` meets its contract.
-- Assumes nothing.
use Rattle.elevation.proofs.RaiseLoop.{InTimes}
use Rattle.elevation.proofs.raise.raise_rows.Given as goal

abbrev pub invariant-loop-d : goal.invariant-loop-d
invariant-loop-d l = InTimes l.p l.e l.initial.rows l.rows l.d
