-- The bounds of a curve: the answer of bound_curve. Definitions only.
use Rattle.std.specs.Prelude.{ℕ, ◌+◌, ◌-◌, Bool, cond, List, Float, eqb, Option, Some, None, Result, Ok, Err}
use Rattle.interval.specs.declared.Interval.{Interval}
use Rattle.interval.specs.Ops.{new_of}
use Rattle.knots.specs.Refusal.{refuse}
use Rattle.knots.specs.declared.refusal.Reason.TheVariants.{RangeBad}
use Rattle.jets.specs.Jet.{parameter_of}
use Rattle.bounds.specs.declared.start.Weights.{Weights}
use Rattle.jets.specs.declared.cartesian.Bounds.{Bounds}
use Rattle.bounds.specs.Start.{weights_of, row_of}
use Rattle.runs.specs.Point as P
use Rattle.jets.specs.Cartesian.{net_by}
use Rattle.ranges.specs.Range.{span_over, range_refusal}
use Rattle.runs.specs.Weight.{weight_at}
use Rattle.ranges.specs.Read.{start_refusal}
use Rattle.bounds.specs.Answer.{bounded_of}
use Rattle.bounds.specs.declared.answer.NurbsBounds.{NurbsBounds}
use Rattle.knots.specs.declared.refusal.Refusal.{Refusal}
use Rattle.knots.specs.Curve.{count_of, curve_refusal}

module _ (p s : ℕ) (ks ps ws : List Float) (r : Bool) (lo hi : Float) where
  abbrev pub range_is : Float → Interval → Option Interval → Result Bounds Refusal
  range_is scale bound (Some i) = let o = P.point_of ps (s - p) in net_by o bound (row_of ps ws r (s - p) o scale ks p s (parameter_of i))
  range_is scale bound None = Err (refuse RangeBad)

  abbrev pub weights_are : Result Weights Refusal → Result Bounds Refusal
  weights_are (Ok w) = range_is w.scale w.bound (new_of lo hi)
  weights_are (Err q) = Err q

  -- the bounds on span s
  unfoldable pub span_bound : Result Bounds Refusal
  span_bound = weights_are (weights_of (λ m. weight_at r ws (s - p + m)) (p + 1))

-- a refusal, or the answer where there is none
abbrev pub unless : Refusal → Result NurbsBounds Refusal → Result NurbsBounds Refusal
unless r a = cond (eqb r.number 0) a (Err r)

-- the bounds of a curve, or the first refusal: validity, 31, 24, 25, then those of the steps
unfoldable pub bound_of : ℕ → List Float → List Float → Bool → List Float → Float → Float → Result NurbsBounds Refusal
bound_of p ks ps r ws lo hi =
    unless (curve_refusal p ks ps r ws)
    (unless (range_refusal p (count_of ps) (span_over p (count_of ps) ks lo hi) lo hi)
    (bounded_of (span_bound p (span_over p (count_of ps) ks lo hi) ks ps ws r lo hi)))

-- the bounds on span s, or the first refusal: the runs' lengths, the numbers that are read, 31, 24, 25 where s is no span that contains the range, then those of the steps
unfoldable pub bound_at : ℕ → ℕ → List Float → List Float → Bool → List Float → Float → Float → Result NurbsBounds Refusal
bound_at p s ks ps r ws lo hi = unless (start_refusal p s ks ps r ws lo hi) (bounded_of (span_bound p s ks ps ws r lo hi))
