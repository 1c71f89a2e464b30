use Rattle.std.proofs.Common.{◌≡◌, false, T, sym, ap, ◌∙◌, subst}
use lib.Ieee.{binary64, is_nan, of_bits, fits}
use lib.Ieee.Bits.{nan_bits_is, of_bits-fits}
use Rattle.doubles.specs.Neighbour.{next_up}
use Rattle.doubles.proofs.TestFacts.{Tn-of}
use Rattle.doubles.proofs.Stepping.{up-nan}
use Rattle.doubles.proofs.Symmetric.{farthest, farthest-up}
use Rattle.doubles.proofs.Sizes.{up-larger}
use Rattle.interval.proofs.step.above_sizes.Goals as goal

pub pattern_above-requires : goal.pattern_above-requires
pattern_above-requires c = nan_bits_is binary64 _ ∙ sym (up-nan binary64 _ (of_bits-fits binary64 c.larger.result)) ∙ ap is_nan (let chosen' : next_up (of_bits binary64 c.larger.result) ≡ next_up (farthest c.args.p c.args.q) = rw (c.larger.ensures, c.size-2.ensures, c.size.ensures)
    (up-larger binary64 c.args.p c.args.q (let held-p' : T (fits binary64 c.args.p) = subst T (sym c.well_formed.0.1) tt in held-p') (let held-q' : T (fits binary64 c.args.q) = subst T (sym c.well_formed.1.0.1) tt in held-q') (Tn-of _ c.requires.0) (Tn-of _ c.requires.1)) in chosen') ∙ (let number' : is_nan (next_up (farthest c.args.p c.args.q)) ≡ false = farthest-up binary64 c.args.p c.args.q (let held-p' : T (fits binary64 c.args.p) = subst T (sym c.well_formed.0.1) tt in held-p') (let held-q' : T (fits binary64 c.args.q) = subst T (sym c.well_formed.1.0.1) tt in held-q') c.requires.0 in number')

pub float_from_bits-result : goal.float_from_bits-result
float_from_bits-result c = Tn-of _ (nan_bits_is binary64 _ ∙ ap is_nan (c.pattern_above.ensures ∙ (let chosen' : next_up (of_bits binary64 c.larger.result) ≡ next_up (farthest c.args.p c.args.q) = rw (c.larger.ensures, c.size-2.ensures, c.size.ensures)
    (up-larger binary64 c.args.p c.args.q (let held-p' : T (fits binary64 c.args.p) = subst T (sym c.well_formed.0.1) tt in held-p') (let held-q' : T (fits binary64 c.args.q) = subst T (sym c.well_formed.1.0.1) tt in held-q') (Tn-of _ c.requires.0) (Tn-of _ c.requires.1)) in chosen')) ∙ (let number' : is_nan (next_up (farthest c.args.p c.args.q)) ≡ false = farthest-up binary64 c.args.p c.args.q (let held-p' : T (fits binary64 c.args.p) = subst T (sym c.well_formed.0.1) tt in held-p') (let held-q' : T (fits binary64 c.args.q) = subst T (sym c.well_formed.1.0.1) tt in held-q') c.requires.0 in number'))

pub returns : goal.returns
returns c = c.pattern_above.ensures ∙ (let chosen' : next_up (of_bits binary64 c.larger.result) ≡ next_up (farthest c.args.p c.args.q) = rw (c.larger.ensures, c.size-2.ensures, c.size.ensures)
    (up-larger binary64 c.args.p c.args.q (let held-p' : T (fits binary64 c.args.p) = subst T (sym c.well_formed.0.1) tt in held-p') (let held-q' : T (fits binary64 c.args.q) = subst T (sym c.well_formed.1.0.1) tt in held-q') (Tn-of _ c.requires.0) (Tn-of _ c.requires.1)) in chosen')
