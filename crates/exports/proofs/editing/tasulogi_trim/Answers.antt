use Rattle.exports.proofs.FewPoints.{few-kept}
use Rattle.exports.proofs.Settled.{settled-edit}
use Rattle.exports.proofs.editing.tasulogi_trim.Goals as goal

pub edit_number-requires : goal.edit_number-requires
edit_number-requires c = let a = c.args in
    few-kept a.degree a.knots.now a.points.now a.rational a.weights.now a.lo a.hi c.trim.ensures

pub returns : goal.returns
returns c = let all = settled-edit c.edit_number.ensures c.trim.ensures in
    record { value = all.0; trim_meets = all.1 }
