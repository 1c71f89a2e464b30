use Rattle.exports.proofs.Branches.{ends_of}
use Rattle.exports.proofs.intervals.tasulogi_interval_point.Goals as goal

pub returns : goal.returns
returns c = ends_of c.point.ensures c.put.ensures
