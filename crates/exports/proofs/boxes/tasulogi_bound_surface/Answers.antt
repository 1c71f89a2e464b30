use Rattle.bounds.specs.Holds.{SurfaceHolds}
use Rattle.bounds.specs.Numbers.{bounded_refusal}
use Rattle.exports.specs.Boxes.{bounded_answer}
use Rattle.exports.proofs.Box.{put-promised}
use Rattle.exports.proofs.boxes.tasulogi_bound_surface.Goals as goal

pub returns : goal.returns
returns c = let a = c.args in
    let e = c.bound_surface.ensures in
    let all =
    put-promised bounded_answer bounded_refusal
    (SurfaceHolds a.p a.q a.uk.now a.vk.now a.un a.vn a.points.now a.rational a.weights.now a.u_lo a.u_hi a.v_lo a.v_hi)
    (e.value, (e.surface_holds, e.not_idle)) c.put_bounded.ensures in
    record { leaves = all.0; surface_holds = all.1.0; not_idle = all.1.1 }
