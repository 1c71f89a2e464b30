use Rattle.exports.proofs.Plain.{curve-plain}
use Rattle.exports.proofs.tables.tasulogi_curve_refusal.Goals as goal

pub returns : goal.returns
returns c = let a = c.args in c.packed_check.ensures _ (curve-plain a.degree a.knots.now a.points.now a.rational a.weights.now) c.curve_refusal.ensures
