-- What refuses every row of a call alike, before any row. Definitions only.
use Rattle.std.specs.Prelude.{ℕ, Bool, List, Float}
use Rattle.knots.specs.Refusal.{or_else}
use Rattle.knots.specs.Curve.{curve_refusal}
use Rattle.knots.specs.Shape.{degree_refusal, room_refusal}
use Rattle.knots.specs.declared.refusal.Refusal.{Refusal}

-- the curve's, then 31
unfoldable pub table_refusal : ℕ → List Float → List Float → Bool → List Float → Refusal
table_refusal p ks ps g ws = or_else (curve_refusal p ks ps g ws) (degree_refusal p)

-- 30 of two lent runs of a and b numbers that are to hold m and n
unfoldable pub rooms_refusal : ℕ → ℕ → ℕ → ℕ → Refusal
rooms_refusal a m b n = or_else (room_refusal a m) (room_refusal b n)
