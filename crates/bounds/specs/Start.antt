-- Weights over the largest, points relative to the first: the net that a bound starts with. Definitions only.
use Rattle.std.specs.Prelude.{ℕ, zero, suc, ◌+◌, Bool, false, cond, List, Float, Option, Some, None, Result, Ok, Err}
use Rattle.std.specs.Float.{inf}
use Rattle.std.specs.Float.Ieee.{le}
use Rattle.doubles.specs.Neighbour.{fmin, fmax}
use Rattle.doubles.specs.Value.{zero+, one+}
use Rattle.runs.specs.Point as P
use Rattle.interval.specs.Ops.{point_of, sub_of, mul_of, new_of, reciprocal_of, divide_of}
use Rattle.interval.specs.declared.Interval.{Interval}
use Rattle.interval.specs.declared.DivideError.{DivideError}
use Rattle.knots.specs.Refusal.{refuse}
use Rattle.knots.specs.declared.refusal.Reason.TheVariants.{QuotientNone, WeightRatioLow}
use Rattle.knots.specs.Numbers.{quotient_by}
use Rattle.jets.specs.declared.jet.Jet.{Jet}
use Rattle.jets.specs.declared.net.Control.{Control}
use Rattle.knots.specs.declared.refusal.Refusal.{Refusal}
use Rattle.runs.specs.declared.vector.Vector.{Vector}
use Rattle.bounds.specs.declared.start.Extremes.{Extremes}
use Rattle.bounds.specs.declared.start.Weights.{Weights}
use Rattle.jets.specs.Jet.{constant_of}
use Rattle.jets.specs.Net.{deboor_of}
use Rattle.runs.specs.Weight.{weight_at}

-- the largest of a number and k weights, and the smallest
unfoldable pub max_from : Float → (ℕ → Float) → ℕ → Float
max_from a w zero = a
max_from a w (suc k) = fmax (max_from a w k) (w k)

unfoldable pub min_from : Float → (ℕ → Float) → ℕ → Float
min_from a w zero = a
min_from a w (suc k) = fmin (min_from a w k) (w k)

-- both, and those of no weights
unfoldable pub extremes_of : Extremes → (ℕ → Float) → ℕ → Extremes
extremes_of a w k = record { least = min_from a.least w k; most = max_from a.most w k }

abbrev pub no_extremes : Extremes
no_extremes = record { least = inf false; most = zero+ }

abbrev pub are_by : Float → Option Interval → Result Weights Refusal
are_by most (Some b) = Ok (record { scale = most; bound = b })
are_by most None = Err (refuse QuotientNone)

abbrev pub range_by : Float → Result Interval DivideError → Result Weights Refusal
range_by most = quotient_by (λ q. cond (le q.lo zero+) (Err (refuse WeightRatioLow)) (are_by most (new_of q.lo one+)))

-- the scale and [low of least / most, 1]
unfoldable pub range_of : Float → Float → Result Weights Refusal
range_of least most = range_by most (divide_of (point_of least) (point_of most))

unfoldable pub weights_of : (ℕ → Float) → ℕ → Result Weights Refusal
weights_of w k = range_of (min_from (inf false) w k) (max_from zero+ w k)

-- (p - o) weight
unfoldable pub moved_of : Float → Float → Interval → Jet
moved_of p o q = constant_of (mul_of (sub_of (point_of p) (point_of o)) q)

-- a point of the net: relative to o, its weight times the scale's reciprocal
unfoldable pub control_of : Vector → Vector → Float → Interval → Control
control_of p o w r =
    let q = mul_of (point_of w) r in
    record { x = moved_of p.x o.x q; y = moved_of p.y o.y q; z = moved_of p.z o.z q; w = constant_of q }

-- place m of the row at b, relative to o
unfoldable pub start_at : List Float → List Float → Bool → ℕ → Vector → Interval → ℕ → Control
start_at ps ws r b o q m = control_of (P.point_of ps (b + m)) o (weight_at r ws (b + m)) q

abbrev pub row_by : List Float → List Float → Bool → ℕ → Vector → List Float → ℕ → ℕ → Jet → Result Interval DivideError → Result Control Refusal
row_by ps ws r b o ks p s t = quotient_by (λ q. deboor_of ks p s t (start_at ps ws r b o q))

-- all levels on the row at b, its weights over the scale
unfoldable pub row_of : List Float → List Float → Bool → ℕ → Vector → Float → List Float → ℕ → ℕ → Jet → Result Control Refusal
row_of ps ws r b o scale ks p s t = row_by ps ws r b o ks p s t (reciprocal_of (point_of scale))
