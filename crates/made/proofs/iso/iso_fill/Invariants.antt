-- `made::iso::iso_fill` meets its contract.
-- Assumes nothing.
use Prim.Native.Nat.{◌+◌}
use Rattle.basis.specs.Basis.{cell}
use Rattle.made.specs.Iso.{iso_sums}
use Rattle.made.proofs.Isos.{InIso}
use Rattle.made.proofs.iso.iso_fill.Given as goal

abbrev pub invariant-loop-k : goal.invariant-loop-k
invariant-loop-k l = InIso (iso_sums l.points l.rational l.weights l.strip.constant_u l.strip.columns l.strip.first (cell l.ders 0) (l.strip.p + 1)) l.initial.out_points l.initial.out_weights l.out_points l.out_weights l.k
