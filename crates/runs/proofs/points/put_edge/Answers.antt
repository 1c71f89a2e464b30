-- `runs::points::put_edge` meets its contract.
-- Assumes nothing.
use mathlib.Core.Path.{sym, ◌∙◌}
use native.Mathlib.Omega.{arith}
use Prim.Native.Nat.{◌*◌}
use Rattle.runs.proofs.Outside.{put-out}
use Rattle.runs.proofs.Stores.{stored-three}
use Rattle.runs.proofs.points.put_edge.Goals as goal

pub returns-then-i-points : goal.returns-then-i-points
returns-then-i-points c = let a = c.args in c.store_vector.ensures ∙ sym (stored-three a.points.now (a.i * 3) a.v.x a.v.y a.v.z)

pub returns-else-i-points : goal.returns-else-i-points
returns-else-i-points c = sym (put-out c.args.points.now c.args.i c.args.v (omega arith))
