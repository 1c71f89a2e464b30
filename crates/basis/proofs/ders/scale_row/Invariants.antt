-- `basis::ders::scale_row` meets its contract.
-- Assumes nothing.
use Rattle.basis.proofs.Factors.{InScale}
use Rattle.basis.proofs.ders.scale_row.Given as goal

abbrev pub invariant-loop-j : goal.invariant-loop-j
invariant-loop-j l = InScale l.k l.f l.initial.ders l.ders l.j
