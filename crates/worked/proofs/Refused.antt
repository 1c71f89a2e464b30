-- Two tables that validation refuses, on a span that has the range: `bound_span` refuses them by 4 and by 10. Assumes nothing.
use mathlib.Core.Bool.{true}
use mathlib.Core.List.{[], ◌∷◌}
use mathlib.Core.Path.{◌≡◌, refl}
use lib.ListN.{replicate}
use lib.Ieee.{of_bits, lt, le, is_nan}
use Rattle.doubles.specs.Value.{zero+}
use Rattle.knots.specs.Below.{all_below}
use Rattle.knots.specs.Knots.{all_finite, in_order, ordered}
use Rattle.knots.specs.Curve.{over_long, any_long, is_weight, all_weights}
use Rattle.knots.specs.Shape.{knot_shape, weight_shape, curve_shape}
use Rattle.ranges.specs.Range.{in_span, taken_span, range_refusal}
use Rattle.ranges.specs.Read.{read_refusal, place_refusal, start_refusal}
use Rattle.bounds.specs.Curve.{bound_at}
use Rattle.bounds.specs.Numbers.{bounded_refusal}
use Rattle.worked.specs.Table.{d, doubles, half, one, two, three, minus}

-- degree 2, span 2, knots 0 3 1 2 3 0, weights 1 0.5 1, zero points, over [1, 1]
pub knots-unordered : (bounded_refusal (bound_at 2 2 (doubles (0 ∷ three ∷ one ∷ two ∷ three ∷ 0 ∷ [])) (replicate 9 zero+) true (doubles (one ∷ half ∷ one ∷ [])) (d one) (d one))).number ≡ 4
unfolding of_bits lt le is_nan all_below all_finite in_order ordered over_long any_long is_weight all_weights knot_shape weight_shape curve_shape in_span taken_span range_refusal read_refusal
    place_refusal start_refusal bound_at
knots-unordered = refl

-- degree 1, span 1, knots 0 0 1 1, weights -1 -1, zero points, over [0, 1]
pub weights-negative : (bounded_refusal (bound_at 1 1 (doubles (0 ∷ 0 ∷ one ∷ one ∷ [])) (replicate 6 zero+) true (doubles (minus one ∷ minus one ∷ [])) (d 0) (d one))).number ≡ 10
unfolding of_bits lt le is_nan all_below all_finite in_order ordered over_long any_long is_weight all_weights knot_shape weight_shape curve_shape in_span taken_span range_refusal read_refusal
    place_refusal start_refusal bound_at
weights-negative = refl
