-- `evaluate::net::net_sums` meets its contract.
-- Assumes nothing.
use Prim.Native.Nat.{◌+◌}
use mathlib.Core.Path.{◌≡◌}
use native.Mathlib.Omega.{arith}
use lib.Ieee.{of_bits}
use Rattle.basis.specs.Basis.{cell}
use Rattle.evaluate.specs.Surface.{net_sums}
use Rattle.evaluate.proofs.Nets.{net-none, net-more}
use Rattle.evaluate.proofs.net.net_sums.Goals as goal
use Rattle.evaluate.proofs.net.net_sums.Goals.{After-net_row-s}

pub loop-k-init : goal.loop-k-init
unfolding of_bits
loop-k-init c = let a = c.args in
    net-none
    a.points.now a.rational a.weights.now a.scale a.o a.net.columns a.net.a a.net.b (a.net.q + 1) (cell a.u_ders.now a.i)
    (cell a.v_ders.now a.j)

-- the sums with those of this row
more : (c : After-net_row-s)
    → c.net_row-s.result ≡ net_sums c.args.points.now c.args.rational c.args.weights.now c.args.scale c.args.o c.args.net.columns c.args.net.a c.args.net.b (cell c.args.u_ders.now c.args.i) (cell c.args.v_ders.now c.args.j) (c.args.net.q + 1) (c.loop-k.k + 1)
more c = let a = c.args in
    let l = c.loop-k in
    net-more
    a.points.now a.rational a.weights.now a.scale a.o a.net.columns a.net.a a.net.b (a.net.q + 1) (cell a.u_ders.now a.i) (cell a.v_ders.now a.j)
    l.k l.s _ l.invariant c.net_row-s.ensures

pub loop-k-preserved : goal.loop-k-preserved
loop-k-preserved c = more (goal.at.loop-k-preserved c).After-net_row-s

pub returns-2 : goal.returns-2
returns-2 c = let e : c.loop-k.k ≡ c.args.net.p = omega arith in cc (more (goal.at.returns-2 c).After-net_row-s)
