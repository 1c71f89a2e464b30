use Rattle.exports.proofs.Plain.{surface-plain}
use Rattle.exports.proofs.tables.tasulogi_surface_refusal.Goals as goal

pub returns : goal.returns
returns c = let a = c.args in c.packed_check.ensures _ (surface-plain a.p a.q a.uk.now a.vk.now a.un a.vn a.points.now a.rational a.weights.now) c.surface_refusal.ensures
