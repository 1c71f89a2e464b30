-- `made::iso::iso_sums` meets its contract.
-- Assumes nothing.
use mathlib.Core.Path.{◌≡◌}
use Rattle.made.specs.Iso.{iso_sums}
use Rattle.basis.specs.Basis.{cell}
use Rattle.made.proofs.iso.iso_sums.Given as goal

abbrev pub invariant-loop-j : goal.invariant-loop-j
invariant-loop-j l = l.s ≡ iso_sums l.points l.rational l.weights l.strip.constant_u l.strip.columns l.strip.first (cell l.ders 0) l.j l.k
