-- The point's part of a bound: the answer of bound_point. Definitions only.
use Rattle.std.specs.Prelude.{Float, Option, Some, None, Result, Ok, Err}
use Rattle.doubles.specs.Neighbour.{fmin, fmax}
use Rattle.interval.specs.Ops.{point_of, add_of, mul_of, new_of, reciprocal_of}
use Rattle.interval.specs.declared.Interval.{Interval}
use Rattle.interval.specs.declared.DivideError.{DivideError}
use Rattle.knots.specs.Refusal.{refuse}
use Rattle.knots.specs.declared.refusal.Reason.TheVariants.{WeightsApart}
use Rattle.knots.specs.Numbers.{quotient_by}
use Rattle.runs.specs.declared.vector.Vector.{Vector}
use Rattle.knots.specs.declared.refusal.Refusal.{Refusal}
use Rattle.jets.specs.declared.cartesian.Bounds.{Bounds}
use Rattle.ends.specs.declared.flat.Flat.{Flat}
use Rattle.ends.specs.Ends.{interval_by}
use Rattle.bounds.specs.declared.answer.Triple.{Triple}
use Rattle.bounds.specs.declared.answer.NurbsBounds.{NurbsBounds}
use Rattle.bounds.specs.Answer.{triple_of}

-- ---- of an answer with derivatives
abbrev pub point_only : Result NurbsBounds Refusal → Result Triple Refusal
point_only (Ok b) = Ok b.point
point_only (Err r) = Err r

abbrev pub point_part : Result Bounds Refusal → Result Triple Refusal
point_part (Ok b) = Ok (triple_of b.x.v b.y.v b.z.v)
point_part (Err r) = Err r

-- ---- from a net without derivatives
unfoldable pub along_of : Interval → Interval → Float → Interval
along_of h r o = add_of (mul_of h r) (point_of o)

abbrev pub flat_by : Flat → Vector → Result Interval DivideError → Result Triple Refusal
flat_by h o = quotient_by (λ r. Ok (triple_of (along_of (interval_by h.x) r o.x) (along_of (interval_by h.y) r o.y) (along_of (interval_by h.z) r o.z)))

abbrev pub flat_cut : Flat → Vector → Option Interval → Result Triple Refusal
flat_cut h o (Some w) = flat_by h o (reciprocal_of w)
flat_cut h o None = Err (refuse WeightsApart)

unfoldable pub flat_cartesian : Flat → Vector → Interval → Result Triple Refusal
flat_cartesian h o bound = flat_cut h o (new_of (fmax (interval_by h.w).lo bound.lo) (fmin (interval_by h.w).hi bound.hi))

abbrev pub flat_box : Vector → Interval → Result Flat Refusal → Result Triple Refusal
flat_box o bound (Ok h) = flat_cartesian h o bound
flat_box o bound (Err r) = Err r
