-- The larger of two numbers, and the largest of many.
-- Assumes nothing.
use Rattle.std.specs.Prelude.{ℕ, zero, suc, cond, Float}
use Rattle.std.specs.Float.Ieee.{lt}

-- the larger of two, and the first where neither is
abbrev pub larger : Float → Float → Float
larger a b = cond (lt a b) b a

-- the largest of m and f 0, f 1, .. of n numbers
unfoldable pub largest_from : Float → (ℕ → Float) → ℕ → Float
largest_from m f zero = m
largest_from m f (suc n) = larger (largest_from m f n) (f n)
