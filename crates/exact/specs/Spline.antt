-- The B-spline basis over fractions on a chosen span, and the exact point and first derivative of a rational curve (The NURBS Book, 2.2, 2.3, 4.2; document 01, "Exact meaning").
-- U, w, P are the knots, the weights and one coordinate of the points, by index; t the parameter; s the span; p a degree; count the number of points.
use Rattle.std.specs.Prelude.{cond, ℕ, zero, suc, ◌+◌, ◌≤◌, ◌<◌, eqb}
use Rattle.exact.specs.Rational.{ℚ, ◌+q◌, ◌-q◌, ◌*q◌, ◌/q◌, negq, inv, q0, q1, ◌≤q◌, ◌<q◌}

-- f 0 + .. + f (n - 1)
unfoldable pub Σq : ℕ → (ℕ → ℚ) → ℚ
Σq zero f = q0
Σq (suc n) f = Σq n f +q f n

-- ---- the basis

-- the two factors of degree k + 1 at the knots from i to i + k + 1: they are 0 where those two knots are equal
unfoldable pub rise : (ℕ → ℚ) → ℚ → ℕ → ℕ → ℚ
rise U t k i = (t -q U i) /q (U (i + suc k) -q U i)

unfoldable pub fall : (ℕ → ℚ) → ℚ → ℕ → ℕ → ℚ
fall U t k i = (U (i + suc k) -q t) /q (U (i + suc k) -q U i)

-- the basis function i of degree k at t, on the span s
unfoldable pub basis : (ℕ → ℚ) → ℚ → ℕ → ℕ → ℕ → ℚ
unfolding rise fall
basis U t s zero i = cond (eqb i s) q1 q0
basis U t s (suc k) i = rise U t k i *q basis U t s k i +q fall U t k (suc i) *q basis U t s k (suc i)

-- ---- the knots: n of them do not decrease, and the span s is not empty

pub record Knots (U : ℕ → ℚ) (n s : ℕ) : Type 0 where
  pub mono : (i j : ℕ) → i ≤ j → j < n → U i ≤q U j
  pub gap : U s <q U (suc s)

-- ---- the exact point

-- Σ N_i c_i over all the points
unfoldable pub whole : (ℕ → ℚ) → ℚ → ℕ → ℕ → ℕ → (ℕ → ℚ) → ℚ
unfolding Σq basis
whole U t s p count c = Σq count (λ i. basis U t s p i *q c i)

-- Σ N_i w_i P_i / Σ N_i w_i
unfoldable pub exact : (ℕ → ℚ) → ℚ → ℕ → ℕ → ℕ → (ℕ → ℚ) → (ℕ → ℚ) → ℚ
unfolding whole
exact U t s p count w P = whole U t s p count (λ i. w i *q P i) /q whole U t s p count w

-- ---- its first derivative: the rules for sums, products and quotients through the same recursion

-- the derivative of `rise`; that of `fall` is its opposite
unfoldable pub slope : (ℕ → ℚ) → ℕ → ℕ → ℚ
slope U k i = inv (U (i + suc k) -q U i)

-- N' by the product rule: at t + h the function is N + h N' + h h times a polynomial in h (`basis-at`), and on knots that do not decrease N' is the book's formula 2.7 (`dbasis-formula`)
unfoldable pub dbasis : (ℕ → ℚ) → ℚ → ℕ → ℕ → ℕ → ℚ
unfolding slope basis
dbasis U t s zero i = q0
dbasis U t s (suc k) i =
    (slope U k i *q basis U t s k i +q rise U t k i *q dbasis U t s k i)
    +q (negq (slope U k (suc i)) *q basis U t s k (suc i) +q fall U t k (suc i) *q dbasis U t s k (suc i))

-- Σ N'_i c_i over all the points
unfoldable pub dwhole : (ℕ → ℚ) → ℚ → ℕ → ℕ → ℕ → (ℕ → ℚ) → ℚ
unfolding Σq dbasis
dwhole U t s p count c = Σq count (λ i. dbasis U t s p i *q c i)

-- (X / W)' = (X' - (X / W) W') / W
unfoldable pub quotient : ℚ → ℚ → ℚ → ℚ → ℚ
quotient X X' W W' = (X' -q X /q W *q W') /q W

-- the derivative of Σ N_i w_i P_i / Σ N_i w_i
unfoldable pub dexact : (ℕ → ℚ) → ℚ → ℕ → ℕ → ℕ → (ℕ → ℚ) → (ℕ → ℚ) → ℚ
unfolding whole dwhole quotient
dexact U t s p count w P = quotient (whole U t s p count (λ i. w i *q P i)) (dwhole U t s p count (λ i. w i *q P i)) (whole U t s p count w) (dwhole U t s p count w)
