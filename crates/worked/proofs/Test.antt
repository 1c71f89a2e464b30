-- One computed test of every row, and what it says of each. Assumes nothing.
use Prim.Native.Nat.{ℕ, zero, suc, ◌<◌}
use native.Mathlib.Nat.{le_of_suc-le-suc, not-suc-le-zero}
use mathlib.Core.Path.{◌≡◌, refl, ap₂}
use mathlib.Core.List.{List, [], ◌∷◌}
use lib.Dec.{T, eqb, eqb→eq}
use lib.ListN.{length, get_or}
use lib.Ieee.Fits.{and_l, and_r}
use lib.Ieee.{of_bits, to_bits, of_int, is_nan, lt, le, eq, add, sub, mul, div, neg}
use Rattle.exact.specs.Scheme.{next_of, basis_of, table_of, derivative_of, factor_of, ders_of}
use Rattle.doubles.specs.Neighbour.{up_from, down_from}
use Rattle.interval.specs.Ops.{new_of, point_of, contains_of, checked_of, add_of, sub_of, mul_of, sqr_of, some_nan, reciprocal_of, divide_of}
use Rattle.knots.specs.Below.{all_below}
use Rattle.knots.specs.Knots.{all_finite, in_order, ordered, apart, order_refusal, knot_refusal}
use Rattle.knots.specs.Curve.{over_long, any_long, is_weight, all_weights, control_refusal, formed_refusal, curve_refusal}
use Rattle.knots.specs.Shape.{room_refusal}
use Rattle.knots.specs.Span.{outside, clamped, domain_refusal, last_after, span_of, span_refusal, span_answer}
use Rattle.basis.specs.Basis.{left_of, right_of}
use Rattle.basis.specs.Ders.{in_reach, ders_at, ders_table, basis_table}
use Rattle.runs.specs.Weight.{weight_at}
use Rattle.runs.specs.Scale.{weight_of}
use Rattle.runs.specs.Larger.{largest_from}
use Rattle.runs.specs.Lent.{padded}
use Rattle.edits.specs.Control as C
use Rattle.edits.specs.Counts.{count_below, multiplicity_of, below_of, largest_of, all_equal}
use Rattle.edits.specs.Rows.{scale_of, lift_at, lower_at}
use Rattle.insertion.specs.Insert.{blend_at, knot_at, more_knots, inside, spot_refusal, more_points, more_weights, form_refusal, inserted_knots, inserted_points, inserted_weights, insert_refusal}
use Rattle.insertion.specs.Fold.{insert_all}
use Rattle.edits.specs.Start.{clamped_ends, edit_start, out_room, scratch_room}
use Rattle.insertion.specs.Whole.{insert_start, insert_outcome}
use Rattle.trimming.specs.Trim as Trim
use Rattle.elevation.specs.Breaks.{breaks_from, breaks_of, is_full, full_count, missing_all}
use Rattle.elevation.specs.Raise.{raise_share, raise_once, raise_times}
use Rattle.elevation.specs.Elevate as E
use Rattle.elevation.specs.Whole.{elevated_count, raise_start, elevated, elevate_start, elevate_outcome}
use Rattle.jets.specs.Jet.{constant_of, parameter_of, jet_sub, jet_add, jet_mul, jet_scale}
use Rattle.jets.specs.Net.{share_of, mix_jet, mix_of, share_at, level_of, refusal_from, net_of, refusal_levels, last_by, deboor_of}
use Rattle.ranges.specs.Range as R
use Rattle.bounds.specs.Start as S
use Rattle.jets.specs.Cartesian.{coordinate_of, cartesian_of}
use Rattle.bounds.specs.Answer.{bounds_of}
use Rattle.bounds.specs.Curve.{span_bound, bound_of}
use Rattle.worked.specs.Table.{Row, rows, same, all}

pub all_hold : T (all rows)
unfolding rows next_of basis_of table_of derivative_of factor_of ders_of up_from down_from new_of point_of contains_of checked_of add_of sub_of mul_of sqr_of some_nan reciprocal_of divide_of all_below
    all_finite in_order ordered apart order_refusal knot_refusal over_long any_long is_weight all_weights control_refusal formed_refusal curve_refusal room_refusal outside clamped domain_refusal last_after span_of
    span_refusal span_answer left_of right_of in_reach ders_at ders_table basis_table largest_from weight_of padded C.lift_of C.is_lifted C.is_blended C.share_of C.blend_of C.lower_of count_below
    multiplicity_of below_of largest_of all_equal scale_of lift_at blend_at lower_at knot_at more_knots inside spot_refusal more_points more_weights form_refusal inserted_knots inserted_points
    inserted_weights insert_refusal insert_all clamped_ends edit_start out_room scratch_room insert_start insert_outcome Trim.in_range Trim.ends_of Trim.kept_of Trim.range_refusal Trim.cut_refusal
    Trim.cut_curve Trim.trim_start Trim.trim_outcome breaks_from breaks_of is_full full_count missing_all raise_share raise_once raise_times E.extracted_count E.raised_count E.break_knots
    E.raised_knots E.controls_of E.segment_of E.added_by E.kept_from E.kept_all E.all_blended E.points_of E.weights_of E.raised_controls E.raised_points E.raised_weights E.raised_refusal
    E.raised_outcome E.raise_all elevated_count raise_start elevated elevate_start elevate_outcome constant_of jet_sub jet_add jet_mul jet_scale share_of mix_jet mix_of share_at level_of refusal_from
    net_of refusal_levels last_by deboor_of R.in_span R.first_from R.span_over R.range_refusal weight_at S.max_from S.min_from S.range_of S.weights_of S.moved_of S.control_of S.start_at S.row_of
    coordinate_of cartesian_of bounds_of parameter_of span_bound bound_of of_bits to_bits of_int is_nan lt le eq add sub mul div neg
all_hold = tt

same-is : (xs ys : List ℕ) → T (same xs ys) → xs ≡ ys
same-is [] [] t = refl
same-is [] (y ∷ ys) t = absurd t
same-is (x ∷ xs) [] t = absurd t
same-is (x ∷ xs) (y ∷ ys) t = ap₂ ◌∷◌ (eqb→eq x y (and_l (eqb x y) (same xs ys) t)) (same-is xs ys (and_r (eqb x y) (same xs ys) t))

-- a row that is in no table
abbrev pub none : Row
none = record { name = ""; computed = []; paper = [] }

holds : (rs : List Row) → T (all rs) → (i : ℕ) → i < length rs → (get_or rs i none).computed ≡ (get_or rs i none).paper
holds [] t i h = absurd (not-suc-le-zero h)
holds (r ∷ rs) t zero h = same-is r.computed r.paper (and_l (same r.computed r.paper) (all rs) t)
holds (r ∷ rs) t (suc i) h = holds rs (and_r (same r.computed r.paper) (all rs) t) i (le_of_suc-le-suc h)

-- what each row's definition gives is the paper's number
pub each : (i : ℕ) → i < length rows → (get_or rows i none).computed ≡ (get_or rows i none).paper
each = holds rows all_hold
