-- `edits::work::take_curve` meets its contract.
-- Assumes nothing.
use native.Mathlib.Omega.{arith}
use lib.ListN.{length}
use Rattle.knots.proofs.Refusals.{let_by, stopped_by}
use Rattle.runs.proofs.Overlays.{left-refused, left-answered}
use Rattle.edits.proofs.Starting.{out-open}
use Rattle.edits.proofs.WorkCalls.{take_open}
use Rattle.edits.proofs.work.take_curve.Goals as goal

pub returns-in-Err-clause-knots_after : goal.returns-in-Err-clause-knots_after
returns-in-Err-clause-knots_after c = left-refused _ _ _ _ (stopped_by _ c.in-Err.ensures).1 c.clear.ensures

pub returns-in-Err-clause-points_after : goal.returns-in-Err-clause-points_after
returns-in-Err-clause-points_after c = left-refused _ _ _ _ (stopped_by _ c.in-Err.ensures).1 c.clear-in-Err.ensures

pub returns-in-Err-clause-weights_after : goal.returns-in-Err-clause-weights_after
returns-in-Err-clause-weights_after c = left-refused _ _ _ _ (stopped_by _ c.in-Err.ensures).1 c.clear-in-Err-2.ensures

pub store_curve-requires : goal.store_curve-requires
store_curve-requires c = let a = c.args in
    let o =
    take_open
    a.p a.m a.f a.rational a.a (length a.work.now) (length a.knots.now) (length a.points.now) (length a.weights.now)
    (let_by _ c.in_default.ensures) in
    let x = o.0 in
    let y = o.1.0 in
    let q = out-open a.p a.m a.rational (length a.knots.now) (length a.points.now) (length a.weights.now) o.1.1 in
    record {
      m_bound = (x, omega arith);
      p_in_bounds = q.knots;
      m_in_bounds = q.points;
      m_in_bounds_2 = q.weights;
    }

pub returns-clause-knots_after : goal.returns-clause-knots_after
returns-clause-knots_after c = left-answered _ _ _ _ (let_by _ c.in_default.ensures) c.store_curve.ensures.knots_after

pub returns-clause-points_after : goal.returns-clause-points_after
returns-clause-points_after c = left-answered _ _ _ _ (let_by _ c.in_default.ensures) c.store_curve.ensures.points_after

pub returns-clause-weights_after : goal.returns-clause-weights_after
returns-clause-weights_after c = left-answered _ _ _ _ (let_by _ c.in_default.ensures) c.store_curve.ensures.weights_after
