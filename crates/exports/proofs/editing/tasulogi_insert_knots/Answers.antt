use Rattle.exports.proofs.FewPoints.{few-inserted}
use Rattle.exports.proofs.Settled.{settled-edit}
use Rattle.exports.proofs.editing.tasulogi_insert_knots.Goals as goal

pub edit_number-requires : goal.edit_number-requires
edit_number-requires c = let a = c.args in
    few-inserted
    a.degree a.knots.now a.points.now a.rational a.weights.now a.inserted.now c.insert_knots.ensures

pub returns : goal.returns
returns c = let all = settled-edit c.edit_number.ensures c.insert_knots.ensures in
    record { value = all.0; insert_meets = all.1 }
