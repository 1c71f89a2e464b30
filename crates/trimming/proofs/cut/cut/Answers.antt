-- `trimming::cut::cut` meets its contract.
-- Assumes nothing.
use Rattle.std.proofs.Common.{ap, ◌∙◌}
use native.Mathlib.Omega.{arith}
use lib.ListN.{length}
use Rattle.knots.specs.Refusal.{checked}
use Rattle.knots.proofs.Refusals.{let_by, stopped_by}
use Rattle.trimming.proofs.Cutting.{cut-done}
use Rattle.edits.proofs.WorkCalls.{take_none, front-is}
use Rattle.trimming.proofs.cut.cut.Goals as goal

pub returns-in_err-take_curve : goal.returns-in_err-take_curve
returns-in_err-take_curve c = let a = c.args in
    let q = c.requires in
    absurd
    ((stopped_by _ c.in_err-take_curve.ensures.value).1
    (take_none
    a.p a.m a.f a.rational a.a (length a.work.now) (length a.knots.now) (length a.points.now) (length a.weights.now)
    q.m_bound.0 q.m_bound.1 q.p_in_bounds q.m_in_bounds q.m_in_bounds_2))

pub returns : goal.returns
returns c = let t = c.in_ok-take_curve.ensures in
    let a = c.args in
    let q = c.requires in
    let x = c.take_curve.auto.knots in
    let y = c.take_curve.auto.points in
    let z = c.take_curve.auto.weights in
    let i = q.p_in_bounds in
    let j = q.m_in_bounds in
    let k = q.m_in_bounds_2 in
    cut-done
    a.p a.m a.rational a.a a.f a.work.now _ _ _ _ _ _ _ _ (let_by _ t.value) q.m_bound.1 t.knots_after t.points_after t.weights_after
    (c.front_refusal.ensures ∙ ap checked (front-is a.p a.m a.rational _ _ _ (omega arith) (omega arith) (omega arith)))
