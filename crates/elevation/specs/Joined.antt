-- Raised segments joined to one curve, whatever their controls are: at doubles it is `kept_all` (proofs/Stands), at fractions the exact controls of the raised curve.
-- Assumes nothing.
use Rattle.std.specs.Prelude.{ℕ, zero, suc, ◌+◌, ◌-◌, ◌*◌, not, get_or, Float}
use mathlib.Core.List.{List, [], ◌∷◌, ◌++◌}
use Rattle.exact.specs.Rational.{ℚ, q0}
use Rattle.exact.specs.Bernstein.{raised_to, raised_point}
use Rattle.edits.specs.Counts.{bit}
use Rattle.elevation.specs.Breaks.{is_full}

-- ks is the knots by which a break is full or not; seg j i is control i of segment j, of degree e
module _ {X : Type 0} (p e : ℕ) (ks : List Float) (seg : ℕ → ℕ → X) where
  -- m controls of segment j, from i on
  unfoldable pub part_of : ℕ → ℕ → ℕ → List X
  part_of j i zero = []
  part_of j i (suc m) = seg j i ∷ part_of j (i + 1) m

  -- the segments after the breaks of a list, from segment j on: all controls where the break is full, else all but the first
  unfoldable pub joined_from : ℕ → List Float → List X
  unfolding part_of
  joined_from j [] = []
  joined_from j (t ∷ ts) = part_of j (bit (not (is_full p ks t))) (e + bit (is_full p ks t)) ++ joined_from (j + 1) ts

  unfoldable pub joined_all : List Float → List X
  unfolding part_of joined_from
  joined_all bs = part_of 0 0 (e + 1) ++ joined_from 1 bs

-- the exact weights and one coordinate of the exact points of the raised curve: w and P are those of the curve in which each break is full
unfoldable pub raised_weight_at : ℕ → ℕ → List Float → List Float → (ℕ → ℚ) → ℕ → ℚ
unfolding joined_all
raised_weight_at p e ks bs w i = get_or (joined_all p e ks (λ j. raised_to p (e - p) (λ k. w (j * (p + 1) + k))) bs) i q0

unfoldable pub raised_point_at : ℕ → ℕ → List Float → List Float → (ℕ → ℚ) → (ℕ → ℚ) → ℕ → ℚ
unfolding joined_all
raised_point_at p e ks bs w P i = get_or (joined_all p e ks (λ j. raised_point p (e - p) (λ k. w (j * (p + 1) + k)) (λ k. P (j * (p + 1) + k))) bs) i q0
