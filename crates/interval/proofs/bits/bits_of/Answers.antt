-- The pattern of a double: a NaN is tested first, because `to_bits` is not defined at one.
-- Assumes nothing.
use Rattle.interval.proofs.Nans.{nan_pattern, not-nan}
use Rattle.interval.proofs.bits.bits_of.Goals as goal

pub returns-then-x : goal.returns-then-x
returns-then-x c = nan_pattern c.args.x c.if-x.true

pub float_to_bits-result : goal.float_to_bits-result
float_to_bits-result c = not-nan c.args.x c.if-x.false
