-- `basis::row::row_middle` meets its contract.
-- Assumes nothing.
use Rattle.doubles.specs.Run.{at}
use Rattle.basis.specs.Basis.{cell}
use Rattle.basis.proofs.Rows.{Places, InMiddle}
use Rattle.basis.proofs.row.row_middle.Given as goal

abbrev pub invariant-loop-j : goal.invariant-loop-j
invariant-loop-j l = Places l.p l.r l.k l.initial.j l.j-end × InMiddle (cell l.ndu) l.p l.r l.k (at l.from) l.initial.j l.j-end l.initial.to l.s l.to l.d l.j
