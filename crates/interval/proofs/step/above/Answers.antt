use Rattle.std.proofs.Common.{◌≡◌, T, sym, ap, ◌∙◌, subst}
use lib.Ieee.{binary64, is_nan, of_bits, to_bits, fits}
use Rattle.doubles.specs.Neighbour.{next_up}
use lib.Ieee.Bits.{nan_bits_is, of_bits-to_bits}
use Rattle.doubles.proofs.TestFacts.{Tn-of}
use Rattle.doubles.proofs.Stepping.{up-nan}
use Rattle.interval.proofs.step.above.Goals as goal

pub float_to_bits-x : goal.float_to_bits-x
float_to_bits-x c = Tn-of _ c.requires

pub pattern_above-requires : goal.pattern_above-requires
pattern_above-requires c = nan_bits_is binary64 _ ∙ ap is_nan (let read' : of_bits binary64 (to_bits binary64 c.args.x) ≡ c.args.x = of_bits-to_bits binary64 c.args.x (let held' : T (fits binary64 c.args.x) = subst T (sym c.well_formed.0.1) tt in held') in read') ∙ c.requires

pub float_from_bits-result : goal.float_from_bits-result
float_from_bits-result c = Tn-of _ (nan_bits_is binary64 _ ∙ ap is_nan (let stepped' : of_bits binary64 c.pattern_above.result ≡ next_up c.args.x = c.pattern_above.ensures ∙ ap next_up (let read' : of_bits binary64 (to_bits binary64 c.args.x) ≡ c.args.x = of_bits-to_bits binary64 c.args.x (let held' : T (fits binary64 c.args.x) = subst T (sym c.well_formed.0.1) tt in held') in read') in stepped') ∙ up-nan binary64 c.args.x (let held' : T (fits binary64 c.args.x) = subst T (sym c.well_formed.0.1) tt in held') ∙ c.requires)

pub returns : goal.returns
returns c = (let stepped' : of_bits binary64 c.pattern_above.result ≡ next_up c.args.x = c.pattern_above.ensures ∙ ap next_up (let read' : of_bits binary64 (to_bits binary64 c.args.x) ≡ c.args.x = of_bits-to_bits binary64 c.args.x (let held' : T (fits binary64 c.args.x) = subst T (sym c.well_formed.0.1) tt in held') in read') in stepped')
