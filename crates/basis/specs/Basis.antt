-- The knot differences under a parameter, and what the loops of A2.2 leave in a flat table of 65 columns: column j holds the functions of degree j.
-- Assumes nothing.
use Rattle.std.specs.Prelude.{ℕ, ◌+◌, ◌-◌, ◌*◌, ◌≤◌, ◌<◌, ◌≡◌, List, length, Float}
use Rattle.std.specs.Float.{binary64}
use Rattle.std.specs.Float.Ieee.{sub}
use Rattle.exact.specs.Scheme.{width_of, carry_of, part_of, basis_of}
use Rattle.doubles.specs.Run.{at}
use Rattle.basis.specs.Floats.{floats}

-- left[k] and right[k] of a parameter u in span s
unfoldable pub left_of : List Float → ℕ → Float → ℕ → Float
left_of ks s u k = sub binary64 u (at ks (s + 1 - k))

unfoldable pub right_of : List Float → ℕ → Float → ℕ → Float
right_of ks s u k = sub binary64 (at ks (s + k)) u

-- row a, column b of a table of 65 columns
abbrev pub cell : List Float → ℕ → ℕ → Float
cell t a b = at t (a * 65 + b)

-- column j of a table and its row j, made of the column before. Nothing that lies before both is touched
pub record ColumnDone (j : ℕ) (l r : ℕ → Float) (before after : List Float) : Type 0 where
  pub long : length after ≡ length before
  pub column : (i : ℕ) → i < j → cell after i j ≡ part_of floats l r (λ k. cell before k (j - 1)) j i
  pub corner : cell after j j ≡ carry_of floats l r (λ k. cell before k (j - 1)) j j
  pub widths : (i : ℕ) → i < j → cell after j i ≡ width_of floats l r j i
  pub rest : (a b : ℕ) → a < j → b < j → cell after a b ≡ cell before a b

-- the first q columns and rows of a table are done: basis functions from the diagonal up, and widths below it
pub record TableDone (q : ℕ) (l r : ℕ → Float) (t : List Float) : Type 0 where
  pub values : (j i : ℕ) → j < q → i ≤ j → cell t i j ≡ basis_of floats l r j i
  pub widths : (j i : ℕ) → j < q → i < j → cell t j i ≡ width_of floats l r j i
