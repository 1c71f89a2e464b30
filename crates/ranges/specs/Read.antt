-- What a bound on a span of a curve asks before it starts: the runs' lengths, and the numbers that it reads. A curve is as in knots' specs/Curve. Definitions only.
use Rattle.std.specs.Prelude.{ℕ, ◌+◌, ◌-◌, ◌*◌, ◌/◌, Bool, not, ◌&&◌, cond, List, ltb, leb, take, drop, Float}
use Rattle.knots.specs.Refusal.{refuse, accepted, placed, or_else}
use Rattle.knots.specs.declared.refusal.Reason.TheVariants.{KnotsUnordered, PointNotFinite, WeightBad, LengthBad}
use Rattle.knots.specs.Knots.{all_finite, ordered, non_finite_at, unordered_at}
use Rattle.knots.specs.Curve.{count_of, all_weights, bad_weight_at, any_long}
use Rattle.knots.specs.Shape.{curve_shape}
use Rattle.knots.specs.declared.refusal.Refusal.{Refusal}
use Rattle.ranges.specs.Range.{taken_span, range_refusal}

-- xs[a..b]
abbrev pub part : ℕ → ℕ → List Float → List Float
part a b xs = take (b - a) (drop a xs)

-- the numbers that a bound on span s reads: the 2 p knots around it, p + 1 points and their weights
abbrev pub read_knots : ℕ → ℕ → List Float → List Float
read_knots p s ks = part (s - p + 1) (s + p + 1) ks

abbrev pub read_points : ℕ → ℕ → List Float → List Float
read_points p s ps = part ((s - p) * 3) (s * 3 + 3) ps

abbrev pub read_weights : ℕ → ℕ → List Float → List Float
read_weights p s ws = part (s - p) (s + 1) ws

-- 4, 8, 10 of them, weights where they are given; the place is that in the whole run
unfoldable pub read_refusal : ℕ → ℕ → List Float → List Float → Bool → List Float → Refusal
read_refusal p s ks ps g ws =
    cond (not (ordered (read_knots p s ks))) (placed (s - p + 1 + unordered_at (read_knots p s ks)) (refuse KnotsUnordered))
    (cond (not (all_finite (read_points p s ps))) (placed (s - p + non_finite_at (read_points p s ps) / 3) (refuse PointNotFinite))
    (cond (g && not (all_weights (read_weights p s ws))) (placed (s - p + bad_weight_at (read_weights p s ws)) (refuse WeightBad)) accepted))

-- where s is one of p..=n-1 these, then 31, 24, 25; else 31, 24, 25
unfoldable pub place_refusal : ℕ → ℕ → List Float → List Float → Bool → List Float → Float → Float → Refusal
place_refusal p s ks ps g ws lo hi =
    let n = count_of ps in
    cond (leb p s && ltb s n) (or_else (read_refusal p s ks ps g ws) (range_refusal p n (taken_span s n ks lo hi) lo hi)) (range_refusal p n n lo hi)

-- 30, then 32, 1, 2, 3, 9 by the runs' lengths, then those of the place
unfoldable pub start_refusal : ℕ → ℕ → List Float → List Float → Bool → List Float → Float → Float → Refusal
start_refusal p s ks ps g ws lo hi =
    cond (any_long ks ps g ws) (refuse LengthBad) (or_else (curve_shape p ks ps g ws) (place_refusal p s ks ps g ws lo hi))
