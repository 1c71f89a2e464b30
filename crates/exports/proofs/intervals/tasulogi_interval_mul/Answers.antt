use Rattle.interval.specs.Ops.{mul_of}
use Rattle.exports.proofs.intervals.tasulogi_interval_mul.Goals as goal

pub returns : goal.returns
returns c = c.binary.ensures mul_of (λ a b x h. h.2)
