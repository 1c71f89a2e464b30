-- `evaluate::controls::row_sums` meets its contract.
-- Assumes nothing.
use mathlib.Core.Bool.{true}
use mathlib.Core.Path.{◌≡◌}
use Rattle.basis.specs.Basis.{cell}
use Rattle.evaluate.specs.Controls.{row_sums}
use Rattle.evaluate.proofs.controls.row_sums.Given as goal

abbrev pub invariant-loop-j : goal.invariant-loop-j
invariant-loop-j l = l.s ≡ row_sums true l.points l.rational l.weights l.scale l.first (cell l.ders l.k) l.j
