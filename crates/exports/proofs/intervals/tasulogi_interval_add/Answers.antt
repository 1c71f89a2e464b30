use Rattle.interval.specs.Ops.{add_of}
use Rattle.exports.proofs.intervals.tasulogi_interval_add.Goals as goal

pub returns : goal.returns
returns c = c.binary.ensures add_of (λ a b x h. h.2)
