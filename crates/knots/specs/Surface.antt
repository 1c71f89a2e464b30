-- Refusals of a surface: 30 for a run's length, 32, 11, 1 to 7 of u, 1 to 7 of v, 8 to 10, in this order. And what a surface is that is not refused.
-- Along u it has the degree p, knots us and m points; along v q, vs and n.
-- Assumes nothing.
use Rattle.std.specs.Prelude.{ℕ, ◌*◌, ◌%◌, ◌≤◌, Bool, true, not, ◌||◌, cond, ◌≡◌, List, length, eqb, Float}
use Rattle.knots.specs.Refusal.{refuse, accepted, along, or_else, NetSize, LengthBad, PointsUneven}
use Rattle.knots.specs.Knots.{knot_refusal, ValidKnots}
use Rattle.knots.specs.Curve.{longest, over_long, any_long, count_of, control_refusal, Short, ValidControls}
use Rattle.knots.specs.declared.refusal.Refusal.{Refusal}

unfoldable pub net_refusal : List Float → List Float → ℕ → ℕ → List Float → Bool → List Float → Refusal
net_refusal us vs m n ps g ws =
    cond (over_long true us || any_long vs ps g ws) (refuse LengthBad)
    (cond (not (eqb (length ps % 3) 0)) (refuse PointsUneven)
    (cond (not (eqb (count_of ps) (m * n))) (refuse NetSize) accepted))

unfoldable pub surface_refusal : ℕ → ℕ → List Float → List Float → ℕ → ℕ → List Float → Bool → List Float → Refusal
surface_refusal p q us vs m n ps g ws =
    or_else (net_refusal us vs m n ps g ws)
    (or_else (along 0 (knot_refusal p m us))
    (or_else (along 1 (knot_refusal q n vs))
    (control_refusal (count_of ps) ps g ws)))

-- a surface that is not refused
pub record ValidSurface (p q : ℕ) (us vs : List Float) (m n : ℕ) (ps : List Float) (g : Bool) (ws : List Float) : Type 0 where
  pub short-u : length us ≤ longest
  pub short : Short vs ps g ws
  pub triples : length ps ≡ 3 * (m * n)
  pub u : ValidKnots p m us
  pub v : ValidKnots q n vs
  pub controls : ValidControls (m * n) ps g ws
