-- `basis::ders::raw_derivatives` meets its contract.
-- Assumes nothing.
use Rattle.basis.specs.Basis.{cell}
use Rattle.basis.proofs.AllDers.{InDers}
use Rattle.basis.proofs.ders.raw_derivatives.Given as goal

abbrev pub invariant-loop-r : goal.invariant-loop-r
invariant-loop-r l = InDers (cell l.ndu) l.p l.n l.initial.ders l.ders l.r
