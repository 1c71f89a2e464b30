-- `runs::points::edge_point` meets its contract.
-- Assumes nothing.
use mathlib.Core.Path.{sym}
use native.Mathlib.Omega.{arith}
use Rattle.interval.proofs.Nans.{zero_by_zero}
use Rattle.runs.proofs.Outside.{point-is, point-out}
use Rattle.runs.proofs.points.edge_point.Goals as goal

pub returns-then-i-points : goal.returns-then-i-points
returns-then-i-points c = let a = c.args in
    point-is a.points.now a.i c.number_at.ensures c.number_at-then-i-points.ensures c.number_at-then-i-points-2.ensures

pub returns : goal.returns
returns c = simp zero_by_zero (sym (point-out c.args.points.now c.args.i (omega arith)))
