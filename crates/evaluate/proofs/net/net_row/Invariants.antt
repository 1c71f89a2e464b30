-- `evaluate::net::net_row` meets its contract.
-- Assumes nothing.
use mathlib.Core.Path.{◌≡◌}
use mathlib.Core.Bool.{false}
use lib.Ieee.{binary64, mul}
use Rattle.basis.specs.Basis.{cell}
use Rattle.evaluate.specs.Controls.{sums_from, row_term}
use Rattle.evaluate.proofs.net.net_row.Given as goal

abbrev pub invariant-loop-l : goal.invariant-loop-l
invariant-loop-l l = l.t ≡ sums_from l.initial.t (row_term false l.points l.rational l.weights l.scale l.o l.first (λ i. mul binary64 l.x (cell l.ders l.j i))) l.l
