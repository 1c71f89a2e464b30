use Rattle.exports.proofs.FewPoints.{few-raised}
use Rattle.exports.proofs.Settled.{settled-edit}
use Rattle.exports.proofs.editing.tasulogi_elevate_degree.Goals as goal

pub edit_number-requires : goal.edit_number-requires
edit_number-requires c = let a = c.args in
    few-raised a.degree a.knots.now a.points.now a.rational a.weights.now a.raised c.elevate_degree.ensures

pub returns : goal.returns
returns c = let all = settled-edit c.edit_number.ensures c.elevate_degree.ensures in
    record { value = all.0; elevate_meets = all.1 }
