-- `runs::points::point_at` meets its contract.
-- Assumes nothing.
use Prim.Native.Nat.{◌*◌}
use native.Mathlib.Nat.{add-zero}
use Rattle.runs.proofs.points.point_at.Goals as goal

pub returns-then-i-points : goal.returns-then-i-points
returns-then-i-points c = simp (add-zero (c.args.i * 3))
