use mathlib.Core.Path.{◌≡◌, sym, ap, ◌∙◌, subst}
use Prim.Native.Nat.{◌<◌, ◌*◌}
use native.Mathlib.Omega.{arith}
use lib.Dec.{T}
use lib.Ieee.{binary64, fits, is_nan, add, of_bits, to_bits, top}
use lib.Ieee.Fits.{add-fits}
use lib.Ieee.Bits.{is_false, nan_bits_is, to_bits-lt}
use Rattle.doubles.specs.Neighbour.{next_up}
use Rattle.doubles.specs.Value.{zero+}
use Rattle.doubles.proofs.TestFacts.{T_of, Tn-of}
use Rattle.doubles.proofs.Stepping.{up-nan}
use Rattle.ends.proofs.Plain.{Summed, plus-zero, plain-up, pattern_up}
use Rattle.ends.proofs.ends.above.Goals as goal

pub float_to_bits-b : goal.float_to_bits-b
unfolding of_bits
float_to_bits-b c = (let summed' : Summed c.args.x (add binary64 c.args.x zero+) = plus-zero c.args.x (let held' : T (fits binary64 c.args.x) = subst T (sym c.well_formed.0.1) tt in held') (T_of _ c.requires) in summed').number

pub overflow_mul-result : goal.overflow_mul-result
unfolding of_bits
overflow_mul-result c = omega (arith, (let short' : to_bits binary64 (add binary64 c.args.x zero+) < 2 * top binary64 = to_bits-lt binary64 _ (add-fits binary64 c.args.x zero+) in short'))

pub overflow_add-result : goal.overflow_add-result
unfolding of_bits
overflow_add-result c = omega (arith, (let short' : to_bits binary64 (add binary64 c.args.x zero+) < 2 * top binary64 = to_bits-lt binary64 _ (add-fits binary64 c.args.x zero+) in short'))

pub float_from_bits-result : goal.float_from_bits-result
unfolding of_bits
float_from_bits-result c = Tn-of _ (nan_bits_is binary64 _ ∙ ap is_nan (sym (let stepped' : next_up (add binary64 c.args.x zero+) ≡ of_bits binary64 (pattern_up (to_bits binary64 (add binary64 c.args.x zero+))) = plain-up _ (add-fits binary64 c.args.x zero+) (let summed' : Summed c.args.x (add binary64 c.args.x zero+) = plus-zero c.args.x (let held' : T (fits binary64 c.args.x) = subst T (sym c.well_formed.0.1) tt in held') (T_of _ c.requires) in summed').plain in stepped')) ∙ up-nan binary64 (add binary64 c.args.x zero+) (add-fits binary64 _ _) ∙ is_false _ (let summed' : Summed c.args.x (add binary64 c.args.x zero+) = plus-zero c.args.x (let held' : T (fits binary64 c.args.x) = subst T (sym c.well_formed.0.1) tt in held') (T_of _ c.requires) in summed').number)

pub returns : goal.returns
unfolding of_bits
returns c = sym (let stepped' : next_up (add binary64 c.args.x zero+) ≡ of_bits binary64 (pattern_up (to_bits binary64 (add binary64 c.args.x zero+))) = plain-up _ (add-fits binary64 c.args.x zero+) (let summed' : Summed c.args.x (add binary64 c.args.x zero+) = plus-zero c.args.x (let held' : T (fits binary64 c.args.x) = subst T (sym c.well_formed.0.1) tt in held') (T_of _ c.requires) in summed').plain in stepped') ∙ (let summed' : Summed c.args.x (add binary64 c.args.x zero+) = plus-zero c.args.x (let held' : T (fits binary64 c.args.x) = subst T (sym c.well_formed.0.1) tt in held') (T_of _ c.requires) in summed').next
