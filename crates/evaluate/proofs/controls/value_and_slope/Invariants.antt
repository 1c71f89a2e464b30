-- `evaluate::controls::value_and_slope` meets its contract.
-- Assumes nothing.
use mathlib.Core.Bool.{false}
use mathlib.Core.Path.{◌≡◌}
use Rattle.basis.specs.Basis.{cell}
use Rattle.evaluate.specs.Controls.{row_sums}
use Rattle.evaluate.proofs.controls.value_and_slope.Given as goal

abbrev pub invariant-loop-j : goal.invariant-loop-j
invariant-loop-j l = record {
  value : l.value ≡ row_sums false l.points l.rational l.weights l.scale l.first (cell l.ders 0) l.j;
  slope : l.slope ≡ row_sums false l.points l.rational l.weights l.scale l.first (cell l.ders 1) l.j;
}
