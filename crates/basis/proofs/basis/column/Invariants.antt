-- `basis::basis::column` meets its contract.
-- Assumes nothing.
use Rattle.doubles.specs.Run.{at}
use Rattle.basis.proofs.Columns.{InColumn}
use Rattle.basis.proofs.basis.column.Given as goal

abbrev pub invariant-loop-r : goal.invariant-loop-r
invariant-loop-r l = InColumn l.j (λ k. at l.left k) (λ k. at l.right k) l.initial.ndu l.ndu l.saved l.r
