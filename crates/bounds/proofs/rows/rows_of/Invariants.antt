use Prim.Native.Nat.{◌+◌, ◌*◌}
use Rattle.jets.proofs.Fill.{InFill}
use Rattle.bounds.specs.Start.{row_of}
use Rattle.bounds.proofs.rows.rows_of.Given as goal

abbrev pub invariant-loop-m : goal.invariant-loop-m
invariant-loop-m l = InFill (λ i. row_of l.points l.weights l.rational ((l.row + i) * l.nv + l.col) l.o l.scale l.vk l.v.degree l.v.span l.v.t) l.u.degree l.net l.m
