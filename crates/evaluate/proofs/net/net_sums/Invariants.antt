-- `evaluate::net::net_sums` meets its contract.
-- Assumes nothing.
use Prim.Native.Nat.{◌+◌}
use mathlib.Core.Path.{◌≡◌}
use Rattle.basis.specs.Basis.{cell}
use Rattle.evaluate.specs.Surface.{net_sums}
use Rattle.evaluate.proofs.net.net_sums.Given as goal

abbrev pub invariant-loop-k : goal.invariant-loop-k
invariant-loop-k l = l.s ≡ net_sums l.points l.rational l.weights l.scale l.o l.net.columns l.net.a l.net.b (cell l.u_ders l.i) (cell l.v_ders l.j) (l.net.q + 1) l.k
