-- The bounds of a surface: rows along v, then the column of rows along u, as in the source. Definitions only.
use Prim.Native.Nat.{ℕ, zero, suc, ◌+◌, ◌-◌, ◌*◌, ◌≤◌, ◌<◌}
use Rattle.std.specs.Prelude.{Bool, false, cond, List, ltb, Option, Some, None, Result, Ok, Err}
use Rattle.std.specs.Float.Ieee.{Float}
use Rattle.std.specs.Float.{inf}
use Rattle.doubles.specs.Value.{zero+}
use Rattle.interval.specs.Ops.{new_of}
use Rattle.interval.specs.declared.Interval.{Interval}
use Rattle.runs.specs.declared.vector.Vector.{Vector}
use Rattle.jets.specs.declared.net.Control.{Control}
use Rattle.bounds.specs.declared.start.Extremes.{Extremes}
use Rattle.bounds.specs.declared.start.Weights.{Weights}
use Rattle.jets.specs.declared.cartesian.Bounds.{Bounds}
use Rattle.jets.specs.Net.{filled_of}
use Rattle.bounds.specs.Start.{max_from, min_from, range_of, row_of}
use Rattle.runs.specs.Point as P
use Rattle.jets.specs.Cartesian.{net_by}
use Rattle.ranges.specs.Range.{span_over, range_refusal}
use Rattle.runs.specs.Weight.{weight_at}
use Rattle.bounds.specs.Answer.{bounded_of}
use Rattle.bounds.specs.declared.answer.NurbsBounds.{NurbsBounds}
use Rattle.knots.specs.declared.refusal.Refusal.{Refusal}
use Rattle.knots.specs.Refusal as R
use Rattle.knots.specs.declared.refusal.Reason.TheVariants.{DegreeHigh, RangeBad}
use Rattle.knots.specs.Surface.{surface_refusal}
use Rattle.bounds.specs.Curve.{unless}
use Rattle.jets.specs.Jet.{parameter_of, second_of}

-- refusals of two ranges: 31, then 24, 25 for u and for v
unfoldable pub ranges_refusal : ℕ → ℕ → ℕ → ℕ → ℕ → ℕ → Float → Float → Float → Float → Refusal
ranges_refusal p q nu nv us vs ulo uhi vlo vhi = cond (ltb 64 q) (R.refuse DegreeHigh) (R.or_else (range_refusal p nu us ulo uhi) (range_refusal q nv vs vlo vhi))

-- the largest of a net of weights, row by row, and the smallest
unfoldable pub max_rows : (ℕ → ℕ → Float) → ℕ → ℕ → Float
max_rows w k zero = zero+
max_rows w k (suc m) = max_from (max_rows w k m) (w m) k

unfoldable pub min_rows : (ℕ → ℕ → Float) → ℕ → ℕ → Float
min_rows w k zero = inf false
min_rows w k (suc m) = min_from (min_rows w k m) (w m) k

-- both
unfoldable pub net_extremes : (ℕ → ℕ → Float) → ℕ → ℕ → Extremes
net_extremes w k m = record { least = min_rows w k m; most = max_rows w k m }

module _ (p q us vs : ℕ) (uk vk : List Float) (nv : ℕ) (ps ws : List Float) (r : Bool) (ulo uhi vlo vhi : Float) where
  -- where row m of the active net starts
  abbrev pub first_at : ℕ → ℕ
  first_at m = (us - p + m) * nv + (vs - q)

  abbrev pub corner : Vector
  corner = P.point_of ps ((us - p) * nv + (vs - q))

  -- row m along v
  unfoldable pub row_at : Float → Interval → ℕ → Result Control Refusal
  row_at scale iv m = row_of ps ws r (first_at m) corner scale vk q vs (second_of iv)

  abbrev pub ranges_are : Float → Interval → Option Interval → Option Interval → Result Bounds Refusal
  ranges_are scale bound (Some iv) (Some iu) = net_by corner bound (filled_of uk p us (parameter_of iu) (λ m. row_at scale iv m))
  ranges_are scale bound (Some iv) None = Err (R.refuse RangeBad)
  ranges_are scale bound None b = Err (R.refuse RangeBad)

  abbrev pub weights_by : Result Weights Refusal → Result Bounds Refusal
  weights_by (Ok w) = ranges_are w.scale w.bound (new_of vlo vhi) (new_of ulo uhi)
  weights_by (Err n) = Err n

  -- the bounds on spans us and vs
  unfoldable pub spans_bound : Result Bounds Refusal
  unfolding row_at
  spans_bound = let w : ℕ → ℕ → Float = λ m k. weight_at r ws (first_at m + k) in weights_by (range_of (min_rows w (q + 1) (p + 1)) (max_rows w (q + 1) (p + 1)))

-- the bounds of a valid surface on spans us and vs, or the first refusal of the ranges
unfoldable pub bounded_by : ℕ → ℕ → ℕ → ℕ → List Float → List Float → ℕ → ℕ → List Float → Bool → List Float → Float → Float → Float → Float → Result NurbsBounds Refusal
unfolding spans_bound
bounded_by p q us vs uk vk nu nv ps r ws ulo uhi vlo vhi =
    unless (ranges_refusal p q nu nv us vs ulo uhi vlo vhi) (bounded_of (spans_bound p q us vs uk vk nv ps ws r ulo uhi vlo vhi))

-- the bounds of a surface, or the first refusal
unfoldable pub surface_of : ℕ → ℕ → List Float → List Float → ℕ → ℕ → List Float → Bool → List Float → Float → Float → Float → Float → Result NurbsBounds Refusal
unfolding bounded_by
surface_of p q uk vk nu nv ps r ws ulo uhi vlo vhi =
    unless (surface_refusal p q uk vk nu nv ps r ws)
    (bounded_by p q (span_over p nu uk ulo uhi) (span_over q nv vk vlo vhi) uk vk nu nv ps r ws ulo uhi vlo vhi)

-- ---- what the parts of the code ask: the places of an active net are small

pub record RowsFit (row rows nv col cols : ℕ) : Type 0 where
  pub few : row + rows < 2097152
  pub small : (m : ℕ) → m < rows → (row + m) * nv + col + cols < 2097152

pub record SpansFit (p q us vs uk vk nv : ℕ) : Type 0 where
  pub p-small : p ≤ 64
  pub q-small : q ≤ 64
  pub u-low : p ≤ us
  pub v_low : q ≤ vs
  pub u-room : us + p < uk
  pub v-room : vs + q < vk
  pub corner : (us - p) * nv + (vs - q) < 2097152
  pub fit : RowsFit (us - p) (p + 1) nv (vs - q) (q + 1)
