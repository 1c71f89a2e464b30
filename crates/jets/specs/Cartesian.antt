-- From the homogeneous net to Cartesian bounds. Definitions only.
use Rattle.std.specs.Prelude.{Float, Option, Some, None, Result, Ok, Err}
use Rattle.doubles.specs.Neighbour.{fmin, fmax}
use Rattle.interval.specs.Ops.{point_of, add_of, sub_of, mul_of, new_of, reciprocal_of}
use Rattle.interval.specs.declared.Interval.{Interval}
use Rattle.interval.specs.declared.DivideError.{DivideError}
use Rattle.knots.specs.Refusal.{refuse}
use Rattle.knots.specs.declared.refusal.Reason.TheVariants.{WeightsApart}
use Rattle.knots.specs.Numbers.{quotient_by}
use Rattle.knots.specs.declared.refusal.Refusal.{Refusal}
use Rattle.jets.specs.declared.jet.Jet.{Jet}
use Rattle.jets.specs.declared.net.Control.{Control}
use Rattle.runs.specs.declared.vector.Vector.{Vector}
use Rattle.jets.specs.declared.cartesian.Bounds.{Bounds}

-- one coordinate, r the weight's reciprocal: the quotient moved by the reference, and (h' - q weight') r twice
unfoldable pub coordinate_of : Jet → Jet → Interval → Float → Jet
coordinate_of h weight r o =
    let q = mul_of h.v r in
    record { v = add_of q (point_of o); du = mul_of (sub_of h.du (mul_of q weight.du)) r; dv = mul_of (sub_of h.dv (mul_of q weight.dv)) r }

abbrev pub box_by : Control → Vector → Result Interval DivideError → Result Bounds Refusal
box_by h o = quotient_by (λ r. Ok (record { x = coordinate_of h.x h.w r o.x; y = coordinate_of h.y h.w r o.y; z = coordinate_of h.z h.w r o.z }))

abbrev pub cut_by : Control → Vector → Option Interval → Result Bounds Refusal
cut_by h o (Some w) = box_by h o (reciprocal_of w)
cut_by h o None = Err (refuse WeightsApart)

-- the weight is cut with its other enclosure before it divides
unfoldable pub cartesian_of : Control → Vector → Interval → Result Bounds Refusal
cartesian_of h o bound = cut_by h o (new_of (fmax h.w.v.lo bound.lo) (fmin h.w.v.hi bound.hi))

abbrev pub net_by : Vector → Interval → Result Control Refusal → Result Bounds Refusal
net_by o bound (Ok h) = cartesian_of h o bound
net_by o bound (Err r) = Err r
