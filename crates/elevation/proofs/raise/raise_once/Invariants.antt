-- `elevation::raise::raise_once` meets its contract.
-- Assumes nothing.
use Rattle.elevation.proofs.RaiseLoop.{InRaise}
use Rattle.elevation.proofs.raise.raise_once.Given as goal

abbrev pub invariant-loop-i : goal.invariant-loop-i
invariant-loop-i l = InRaise l.d l.initial.rows l.rows l.i
