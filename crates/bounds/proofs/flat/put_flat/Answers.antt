use Prim.Native.Nat.{◌*◌}
use native.Mathlib.Omega.{arith}
use lib.ListN.{length-set}
use Rattle.bounds.proofs.Flats.{stored-eight}
use Rattle.bounds.proofs.flat.put_flat.Goals as goal

pub bounds-net-at-2 : goal.bounds-net-at-2
bounds-net-at-2 c = simp length-set (omega arith)

pub bounds-net-at-3 : goal.bounds-net-at-3
bounds-net-at-3 c = simp length-set (omega arith)

pub bounds-net-at-4 : goal.bounds-net-at-4
bounds-net-at-4 c = simp length-set (omega arith)

pub bounds-net-at-5 : goal.bounds-net-at-5
bounds-net-at-5 c = simp length-set (omega arith)

pub bounds-net-at-6 : goal.bounds-net-at-6
bounds-net-at-6 c = simp length-set (omega arith)

pub bounds-net-at-7 : goal.bounds-net-at-7
bounds-net-at-7 c = simp length-set (omega arith)

pub bounds-net-at-8 : goal.bounds-net-at-8
bounds-net-at-8 c = simp length-set (omega arith)

pub shape_of-net : goal.shape_of-net
shape_of-net c = simp length-set

pub returns : goal.returns
returns c = let a = c.args in stored-eight a.net.now (a.m * 8) a.c.x.under a.c.x.over a.c.y.under a.c.y.over a.c.z.under a.c.z.over a.c.w.under a.c.w.over
