-- The breaks of a clamped curve of degree p and n points: its distinct inner knots. A full break stands degree + 1 times among the knots ks.
-- Assumes nothing.
use Rattle.std.specs.Prelude.{ℕ, zero, suc, ◌+◌, ◌-◌, Bool, cond, List, [], ◌∷◌, ◌++◌, replicate, ltb, Float}
use Rattle.std.specs.Float.Ieee.{eq}
use Rattle.doubles.specs.Run.{at}
use Rattle.edits.specs.Counts.{bit, multiplicity_of}

-- of the m knots from place i on, those that do not equal the knot before them as numbers
unfoldable pub breaks_from : List Float → ℕ → ℕ → List Float
breaks_from ks i zero = []
breaks_from ks i (suc m) = cond (eq (at ks (i - 1)) (at ks i)) (breaks_from ks (suc i) m) (at ks i ∷ breaks_from ks (suc i) m)

unfoldable pub breaks_of : ℕ → ℕ → List Float → List Float
breaks_of p n ks = breaks_from ks (p + 1) (n - (p + 1))

-- a full break, and how many of a list are
unfoldable pub is_full : ℕ → List Float → Float → Bool
is_full p ks t = ltb p (multiplicity_of ks t)

unfoldable pub full_count : ℕ → List Float → List Float → ℕ
full_count p ks [] = 0
full_count p ks (t ∷ ts) = bit (is_full p ks t) + full_count p ks ts

-- what is inserted for each break of a list to be full
unfoldable pub missing_all : ℕ → List Float → List Float → List Float
missing_all p ks [] = []
missing_all p ks (t ∷ ts) = replicate (p + 1 - multiplicity_of ks t) t ++ missing_all p ks ts
