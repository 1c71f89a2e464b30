-- The second derivative of a basis function (The NURBS Book, 2.9): the degree times a difference, the first derivatives of the degree below over their widths. Definitions only.
use Rattle.std.specs.Prelude.{ℕ, zero, suc}
use Rattle.exact.specs.Rational.{ℚ, ◌-q◌, ◌*q◌, q0, ofℕ}
use Rattle.exact.specs.Spline.{slope, dbasis}

unfoldable pub ddbasis : (ℕ → ℚ) → ℚ → ℕ → ℕ → ℕ → ℚ
unfolding slope dbasis
ddbasis U t s zero i = q0
ddbasis U t s (suc k) i = ofℕ (suc k) *q (slope U k i *q dbasis U t s k i -q slope U k (suc i) *q dbasis U t s k (suc i))
