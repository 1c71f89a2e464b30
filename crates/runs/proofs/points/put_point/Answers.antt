-- `runs::points::put_point` meets its contract.
-- Assumes nothing.
use mathlib.Core.Path.{refl}
use native.Mathlib.Omega.{arith}
use lib.ListN.{length-set}
use Rattle.runs.proofs.points.put_point.Goals as goal

pub bounds-points-at-then-i-points : goal.bounds-points-at-then-i-points
bounds-points-at-then-i-points c = simp length-set (omega arith)

pub bounds-points-at-then-i-points-2 : goal.bounds-points-at-then-i-points-2
bounds-points-at-then-i-points-2 c = simp length-set (omega arith)

pub returns-then-i-points : goal.returns-then-i-points
returns-then-i-points c = refl
