-- `evaluate::net::net_scale` meets its contract.
-- Assumes nothing.
use Prim.Native.Nat.{◌+◌}
use mathlib.Core.Path.{◌≡◌}
use Rattle.evaluate.specs.Surface.{net_largest}
use Rattle.evaluate.proofs.net.net_scale.Given as goal

abbrev pub invariant-loop-k : goal.invariant-loop-k
invariant-loop-k l = l.m ≡ net_largest l.weights l.net.columns l.net.a l.net.b (l.net.q + 1) l.k
