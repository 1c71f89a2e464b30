use Rattle.std.proofs.Common.{◌≡◌, Bool, not, T, sym, ap, ◌∙◌, subst}
use lib.Ieee.{binary64, is_nan, of_bits}
use lib.Ieee.Bits.{nan_bits_is}
use Rattle.doubles.specs.Neighbour.{fabs}
use Rattle.doubles.proofs.TestFacts.{Tn-of}
use Rattle.doubles.proofs.Sizes.{of_size, abs-number}
use Rattle.interval.proofs.step.absolute.Goals as goal

pub float_from_bits-result : goal.float_from_bits-result
float_from_bits-result c = subst (λ (b : Bool). T (not b)) (sym (nan_bits_is binary64 _ ∙ ap is_nan (let sized' : of_bits binary64 c.size.result ≡ fabs c.args.x = ap (of_bits binary64) c.size.ensures ∙ of_size binary64 c.args.x (subst T (sym c.well_formed.0.1) tt) (Tn-of _ c.requires) in sized'))) (abs-number c.args.x (Tn-of _ c.requires))

pub returns : goal.returns
returns c = (let sized' : of_bits binary64 c.size.result ≡ fabs c.args.x = ap (of_bits binary64) c.size.ensures ∙ of_size binary64 c.args.x (subst T (sym c.well_formed.0.1) tt) (Tn-of _ c.requires) in sized')
