use Rattle.interval.specs.Ops.{neg_of}
use Rattle.exports.proofs.intervals.tasulogi_interval_neg.Goals as goal

pub returns : goal.returns
returns c = c.unary.ensures neg_of (λ a x h. h.1)
