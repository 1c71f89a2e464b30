-- Degree elevation of one polynomial segment over fractions, in Bernstein's form and in the source's order (The NURBS Book, 5.5).
-- c is the controls 0 .. d of degree d; w and P are the weights and one coordinate of the points.
use Rattle.std.specs.Prelude.{◌≡◌, cond, ℕ, zero, suc, ◌+◌, ◌≤◌, ◌<◌, leb}
use Rattle.exact.specs.Rational.{ℚ, ◌*q◌, ◌/q◌, ofℕ}
use Rattle.exact.specs.Boehm.{mix}

-- the knots of a segment from a to z: d + 1 times a, and then z
unfoldable pub ends : ℚ → ℚ → ℕ → ℕ → ℚ
ends a z d i = cond (leb i d) a z

-- the same of a span of a longer curve: p times a up to it, and p times z after it; b is its first active control
pub record Segment (U : ℕ → ℚ) (a z : ℚ) (p b : ℕ) : Type 0 where
  pub left : (i : ℕ) → 0 < i → i ≤ p → U (b + i) ≡ a
  pub right : (i : ℕ) → p < i → i ≤ p + p → U (b + i) ≡ z

-- control i of the degree above
unfoldable pub raised : ℕ → (ℕ → ℚ) → ℕ → ℚ
unfolding ofℕ
raised d c zero = c 0
raised d c (suc j) = cond (leb (suc j) d) (mix (ofℕ (suc j) /q ofℕ (suc d)) (c (suc j)) (c j)) (c d)

-- n degrees up, one after the other
unfoldable pub raised_to : ℕ → ℕ → (ℕ → ℚ) → ℕ → ℚ
unfolding raised
raised_to d zero c = c
raised_to d (suc n) c = raised (d + n) (raised_to d n c)

-- the points n degrees up: it is w P that is raised, and the raised weight is taken out again
unfoldable pub raised_point : ℕ → ℕ → (ℕ → ℚ) → (ℕ → ℚ) → ℕ → ℚ
unfolding raised_to
raised_point d n w P i = raised_to d n (λ j. w j *q P j) i /q raised_to d n w i
