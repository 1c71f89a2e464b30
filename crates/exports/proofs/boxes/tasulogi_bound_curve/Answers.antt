use Rattle.bounds.specs.Holds.{Holds}
use Rattle.bounds.specs.Numbers.{bounded_refusal}
use Rattle.exports.specs.Boxes.{bounded_answer}
use Rattle.exports.proofs.Box.{put-promised}
use Rattle.exports.proofs.boxes.tasulogi_bound_curve.Goals as goal

pub returns : goal.returns
returns c = let a = c.args in
    let e = c.bound_curve.ensures in
    let all =
    put-promised bounded_answer bounded_refusal (Holds a.degree a.knots.now a.points.now a.rational a.weights.now a.lo a.hi)
    (e.value, (e.holds, e.not_idle)) c.put_bounded.ensures in
    record { leaves = all.0; holds = all.1.0; not_idle = all.1.1 }
