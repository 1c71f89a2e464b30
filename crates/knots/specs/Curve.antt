-- Refusals of a curve: 30 for a run's length, 32, 1 to 7 of the knots, 8 to 10 of the points and the weights, in this order. And what a curve is that is not refused.
-- A curve is its degree p, knots ks, points ps (x, y, z of each) and, where g is true, weights ws.
-- Assumes nothing.
use Rattle.std.specs.Prelude.{ℕ, ◌*◌, ◌/◌, ◌%◌, ◌≤◌, ◌<◌, Bool, true, not, ◌&&◌, ◌||◌, cond, ◌≡◌, List, length, ltb, eqb, Float}
use Rattle.std.specs.Float.Ieee.{lt}
use Rattle.std.specs.Float.Ieee.Scale.{finite}
use Rattle.doubles.specs.Run.{at}
use Rattle.doubles.specs.Value.{zero+}
use Rattle.knots.specs.Below.{all_below, off_at}
use Rattle.knots.specs.Refusal.{refuse, accepted, placed, or_else, PointNotFinite, WeightCount, WeightBad, LengthBad, PointsUneven}
use Rattle.knots.specs.Knots.{all_finite, non_finite_at, knot_refusal, ValidKnots}
use Rattle.knots.specs.declared.refusal.Refusal.{Refusal}

-- the most numbers that a run may have
abbrev pub longest : ℕ
longest = 1048576

-- a run that is given has more
unfoldable pub over_long : Bool → List Float → Bool
over_long g xs = g && ltb longest (length xs)

unfoldable pub any_long : List Float → List Float → Bool → List Float → Bool
any_long ks ps g ws = over_long true ks || (over_long true ps || over_long g ws)

-- finite and above 0
unfoldable pub is_weight : Float → Bool
is_weight x = finite x && lt zero+ x

-- the number at a place is a weight
abbrev pub is_weight_at : List Float → ℕ → Bool
is_weight_at xs k = is_weight (at xs k)

unfoldable pub all_weights : List Float → Bool
all_weights xs = all_below (is_weight_at xs) (length xs)

-- the first number that is no weight
abbrev pub bad_weight_at : List Float → ℕ
bad_weight_at xs = off_at (is_weight_at xs) (length xs)

-- how many points a run of coordinates has
abbrev pub count_of : List Float → ℕ
count_of ps = length ps / 3

-- 8 to 10 of n points and their weights; 8 says the point of the first coordinate that is not finite
unfoldable pub control_refusal : ℕ → List Float → Bool → List Float → Refusal
control_refusal n ps g ws =
    cond (not (all_finite ps)) (placed (non_finite_at ps / 3) (refuse PointNotFinite))
    (cond (g && not (eqb (length ws) n)) (refuse WeightCount)
    (cond (g && not (all_weights ws)) (placed (bad_weight_at ws) (refuse WeightBad)) accepted))

-- 1 to 10 of a curve of n points
unfoldable pub formed_refusal : ℕ → ℕ → List Float → List Float → Bool → List Float → Refusal
formed_refusal p n ks ps g ws = or_else (knot_refusal p n ks) (control_refusal n ps g ws)

unfoldable pub curve_refusal : ℕ → List Float → List Float → Bool → List Float → Refusal
curve_refusal p ks ps g ws =
    cond (any_long ks ps g ws) (refuse LengthBad)
    (cond (not (eqb (length ps % 3) 0)) (refuse PointsUneven)
    (formed_refusal p (count_of ps) ks ps g ws))

-- n points and their weights, where they are given
pub record ValidControls (n : ℕ) (ps : List Float) (g : Bool) (ws : List Float) : Type 0 where
  pub coordinates : (k : ℕ) → k < length ps → finite (at ps k) ≡ true
  pub weights : g ≡ true → length ws ≡ n
  pub positive : g ≡ true → (k : ℕ) → k < length ws → is_weight (at ws k) ≡ true

-- runs within their limits
pub record Short (ks ps : List Float) (g : Bool) (ws : List Float) : Type 0 where
  pub knots : length ks ≤ longest
  pub points : length ps ≤ longest
  pub weights : g ≡ true → length ws ≤ longest

-- a curve that is not refused
pub record ValidCurve (p : ℕ) (ks ps : List Float) (g : Bool) (ws : List Float) : Type 0 where
  pub short : Short ks ps g ws
  pub triples : length ps ≡ 3 * count_of ps
  pub knots : ValidKnots p (count_of ps) ks
  pub controls : ValidControls (count_of ps) ps g ws
