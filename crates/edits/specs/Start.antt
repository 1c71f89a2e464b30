-- The refusals of an edit before anything is formed: those of the curve, 17, 30 for the lent runs.
-- Assumes nothing.
use Rattle.std.specs.Prelude.{ℕ, ◌+◌, ◌*◌, Bool, cond, ◌&&◌, List, take, drop, Float}
use Rattle.doubles.specs.Run.{at}
use Rattle.knots.specs.Refusal.{refuse, accepted, or_else}
use Rattle.knots.specs.declared.refusal.Reason.TheVariants.{EndsUnclamped}
use Rattle.knots.specs.Curve.{count_of, curve_refusal}
use Rattle.knots.specs.declared.refusal.Refusal.{Refusal}
use Rattle.knots.specs.Shape.{room_refusal}
use Rattle.edits.specs.Counts.{all_equal}
use Rattle.edits.specs.Rows.{given}

-- the knots up to place p are one number, and so are those from place n on
unfoldable pub clamped_ends : ℕ → ℕ → List Float → Bool
clamped_ends p n ks = all_equal (take (p + 1) ks) (at ks p) && all_equal (drop n ks) (at ks n)

-- the curve's refusal, and 17
unfoldable pub edit_start : ℕ → List Float → List Float → Bool → List Float → Refusal
edit_start p ks ps g ws = or_else (curve_refusal p ks ps g ws) (cond (clamped_ends p (count_of ps) ks) accepted (refuse EndsUnclamped))

-- 30: runs of a, b and c numbers for the knots, points and weights of n points; and scratch of d numbers, where n is the most points that a curve has on the way
unfoldable pub out_room : ℕ → ℕ → Bool → ℕ → ℕ → ℕ → Refusal
out_room p n g a b c = or_else (room_refusal a (n + p + 1)) (or_else (room_refusal b (n * 3)) (room_refusal c (given g n)))

unfoldable pub scratch_room : ℕ → ℕ → ℕ → Refusal
scratch_room p n d = room_refusal d (10 * n + 2 * (p + 1))
