use Rattle.interval.specs.Ops.{sub_of}
use Rattle.exports.proofs.intervals.tasulogi_interval_sub.Goals as goal

pub returns : goal.returns
returns c = c.binary.ensures sub_of (λ a b x h. h.2)
