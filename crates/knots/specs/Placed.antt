-- A refusal of which the number is known, with the place that this number asks for. Definitions only.
use Rattle.std.specs.Prelude.{ℕ, ◌+◌, ◌/◌, cond, List, eqb, Float}
use Rattle.knots.specs.Refusal.{numbered, placed}
use Rattle.knots.specs.Knots.{non_finite_at, unordered_at, repeated_at}
use Rattle.knots.specs.Curve.{bad_weight_at}
use Rattle.knots.specs.declared.refusal.Refusal.{Refusal}

-- the refusal k of a knot run: 4 and 7 have a place
unfoldable pub knot_placed : ℕ → ℕ → List Float → Refusal
knot_placed k p ks = placed (cond (eqb k 4) (unordered_at ks) (cond (eqb k 7) (repeated_at (p + 1) ks) 0)) (numbered k)

-- the refusal k of points and weights: 8 and 10 have a place
unfoldable pub control_placed : ℕ → List Float → List Float → Refusal
control_placed k ps ws = placed (cond (eqb k 8) (non_finite_at ps / 3) (cond (eqb k 10) (bad_weight_at ws) 0)) (numbered k)
