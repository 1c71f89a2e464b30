-- `evaluate::net::net_scale` meets its contract.
-- Assumes nothing.
use Prim.Native.Nat.{◌+◌}
use mathlib.Core.Path.{◌≡◌}
use native.Mathlib.Omega.{arith}
use lib.Ieee.{of_bits}
use Rattle.evaluate.specs.Surface.{net_largest, net_scale}
use Rattle.evaluate.proofs.Nets.{largest-net-none, largest-net-more}
use Rattle.evaluate.proofs.net.net_scale.Goals as goal
use Rattle.evaluate.proofs.net.net_scale.Goals.{After-largest_in-m}

pub returns-then-not-rational : goal.returns-then-not-rational
unfolding net_scale of_bits
returns-then-not-rational c = simp c.if-not-rational.true

pub loop-k-init : goal.loop-k-init
unfolding of_bits
loop-k-init c = let s = c.args in largest-net-none s.weights.now s.net.columns s.net.a s.net.b (s.net.q + 1)

-- the largest weight with those of this row
more : (c : After-largest_in-m) → c.largest_in-m.result ≡ net_largest c.args.weights.now c.args.net.columns c.args.net.a c.args.net.b (c.args.net.q + 1) (c.loop-k.k + 1)
more c = let l = c.loop-k in
    let s = c.args in
    largest-net-more s.weights.now s.net.columns s.net.a s.net.b (s.net.q + 1) l.k l.m _ l.invariant c.largest_in-m.ensures

pub loop-k-preserved : goal.loop-k-preserved
loop-k-preserved c = more (goal.at.loop-k-preserved c).After-largest_in-m

pub returns-else-not-rational-2 : goal.returns-else-not-rational-2
unfolding net_scale
returns-else-not-rational-2 c = let e : c.loop-k.k ≡ c.args.net.p = omega arith in
    simp c.if-not-rational.false (cc (more (goal.at.returns-else-not-rational-2 c).After-largest_in-m))
