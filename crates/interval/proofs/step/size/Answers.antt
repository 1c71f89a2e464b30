use Rattle.std.proofs.Common.{T, sym, subst}
use lib.Ieee.{binary64}
use Rattle.doubles.proofs.TestFacts.{Tn-of}
use Rattle.doubles.proofs.Sizes.{size-bits}
use Rattle.interval.proofs.step.size.Goals as goal

pub float_to_bits-result : goal.float_to_bits-result
float_to_bits-result c = Tn-of _ c.requires

pub returns : goal.returns
returns c = size-bits binary64 c.args.x (subst T (sym c.well_formed.0.1) tt) (Tn-of _ c.requires)
