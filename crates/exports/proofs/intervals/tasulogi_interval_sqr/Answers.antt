use Rattle.interval.specs.Ops.{sqr_of}
use Rattle.exports.proofs.intervals.tasulogi_interval_sqr.Goals as goal

pub returns : goal.returns
returns c = c.unary.ensures sqr_of (λ a x h. h.1)
