-- The exact point and first derivatives of a rational surface: sums of products of basis functions along u and v (The NURBS Book, 4.4).
-- U, s, p, count belong to u, and U', z, q, count' to v; a point's weight and coordinate are functions of its two indexes.
use Rattle.std.specs.Prelude.{ℕ}
use Rattle.exact.specs.Rational.{ℚ, ◌*q◌, ◌/q◌}
use Rattle.exact.specs.Spline.{Σq, basis, dbasis, quotient}

-- Σ Σ c_ij A_i B_j, for any A and B
unfoldable pub sum₂ : ℕ → ℕ → (ℕ → ℚ) → (ℕ → ℚ) → (ℕ → ℕ → ℚ) → ℚ
unfolding Σq
sum₂ m n A B c = Σq m (λ i. Σq n (λ j. A i *q B j *q c i j))

-- Σ Σ N_i(u) M_j(v) c_ij over all the points
unfoldable pub whole₂ : (ℕ → ℚ) → ℚ → ℕ → ℕ → ℕ → (ℕ → ℚ) → ℚ → ℕ → ℕ → ℕ → (ℕ → ℕ → ℚ) → ℚ
unfolding sum₂ basis
whole₂ U u s p count U' v z q count' c = sum₂ count count' (basis U u s p) (basis U' v z q) c

-- Σ Σ N w P / Σ Σ N w
unfoldable pub exact₂ : (ℕ → ℚ) → ℚ → ℕ → ℕ → ℕ → (ℕ → ℚ) → ℚ → ℕ → ℕ → ℕ → (ℕ → ℕ → ℚ) → (ℕ → ℕ → ℚ) → ℚ
unfolding whole₂
exact₂ U u s p count U' v z q count' w P = whole₂ U u s p count U' v z q count' (λ i j. w i j *q P i j) /q whole₂ U u s p count U' v z q count' w

-- its derivatives along u and along v, by the quotient rule
unfoldable pub dexact₂u : (ℕ → ℚ) → ℚ → ℕ → ℕ → ℕ → (ℕ → ℚ) → ℚ → ℕ → ℕ → ℕ → (ℕ → ℕ → ℚ) → (ℕ → ℕ → ℚ) → ℚ
unfolding whole₂ sum₂ quotient
dexact₂u U u s p count U' v z q count' w P =
    quotient (whole₂ U u s p count U' v z q count' (λ i j. w i j *q P i j)) (sum₂ count count' (dbasis U u s p) (basis U' v z q) (λ i j. w i j *q P i j))
    (whole₂ U u s p count U' v z q count' w) (sum₂ count count' (dbasis U u s p) (basis U' v z q) w)

unfoldable pub dexact₂v : (ℕ → ℚ) → ℚ → ℕ → ℕ → ℕ → (ℕ → ℚ) → ℚ → ℕ → ℕ → ℕ → (ℕ → ℕ → ℚ) → (ℕ → ℕ → ℚ) → ℚ
unfolding whole₂ sum₂ quotient
dexact₂v U u s p count U' v z q count' w P =
    quotient (whole₂ U u s p count U' v z q count' (λ i j. w i j *q P i j)) (sum₂ count count' (basis U u s p) (dbasis U' v z q) (λ i j. w i j *q P i j))
    (whole₂ U u s p count U' v z q count' w) (sum₂ count count' (basis U u s p) (dbasis U' v z q) w)
