use Rattle.interval.specs.Ops.{hull_of}
use Rattle.exports.proofs.intervals.tasulogi_interval_hull.Goals as goal

pub returns : goal.returns
returns c = c.binary.ensures hull_of (λ a b x h. h.2)
