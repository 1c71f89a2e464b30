-- `exports::boxes::tasulogi_bound_point` meets its contract.
-- Assumes nothing.
use Rattle.bounds.specs.Holds.{PointHolds}
use Rattle.bounds.specs.Numbers.{point_refusal}
use Rattle.exports.specs.Boxes.{point_bounded_answer}
use Rattle.exports.proofs.Box.{put-promised}
use Rattle.exports.proofs.boxes.tasulogi_bound_point.Goals as goal

pub returns : goal.returns
returns c = let a = c.args in
    let e = c.bound_point.ensures in
    let all =
    put-promised point_bounded_answer point_refusal (PointHolds a.degree a.knots.now a.points.now a.rational a.weights.now a.lo a.hi)
    (e.value, (e.point_holds, e.not_idle)) c.put_point.ensures in
    record { leaves = all.0; point_holds = all.1.0; not_idle = all.1.1 }
