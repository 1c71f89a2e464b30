-- The double of a pattern: a NaN pattern is tested first, because `from_bits` is not defined at one.
-- Assumes nothing.
use Rattle.std.proofs.Common.{Bool, not, T, sym, ◌∙◌, subst, le-ltb, lt-ltb}
use lib.Ieee.{binary64}
use lib.Ieee.Bits.{nan_bits_is, nan_bits_above}
use Rattle.interval.proofs.Nans.{only_nan, zero_by_zero}
use Rattle.interval.proofs.bits.double_of.Goals as goal

pub returns-then-bits-gt9218868437227405312 : goal.returns-then-bits-gt9218868437227405312
returns-then-bits-gt9218868437227405312 c = zero_by_zero ∙ only_nan _ (sym (nan_bits_is binary64 c.args.bits) ∙ (nan_bits_above binary64 c.args.bits ∙ lt-ltb _ _ c.if-bits-gt9218868437227405312.true))

pub float_from_bits-result : goal.float_from_bits-result
float_from_bits-result c = subst (λ (b : Bool). T (not b)) (sym (nan_bits_above binary64 c.args.bits ∙ le-ltb _ _ c.if-bits-gt9218868437227405312.false)) tt
