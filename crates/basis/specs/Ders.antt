-- What the loops of A2.3 leave in a flat table of three rows and 65 columns, and the answer of `basis_derivatives` on any input.
-- c is the table of basis functions and widths, p the degree, r the function. Row k of the coefficients is made of row k - 1, f.
-- Assumes nothing.
use Rattle.std.specs.Prelude.{ℕ, ◌+◌, ◌-◌, ◌/◌, ◌%◌, ◌≤◌, ◌<◌, min, max, Bool, cond, ◌&&◌, ◌≡◌, ◌⊎◌, List, length, leb, ltb, eqb, Float}
use Rattle.std.specs.Float.{binary64}
use Rattle.std.specs.Float.Ieee.{mul}
use Rattle.exact.specs.Scheme.{basis_of, table_of, coef_of, sum_of, start_of, der_of, derivative_of, factor_of, ders_of}
use Rattle.doubles.specs.Run.{at}
use Rattle.doubles.specs.Value.{zero+}
use Rattle.knots.specs.Clear.{zeros}
use Rattle.basis.specs.Floats.{floats}
use Rattle.basis.specs.Basis.{left_of, right_of, cell}
use Rattle.runs.specs.Tabulate.{tabulate}

-- ---- the answer
-- the degree is from 1 to 64, the orders are up to 2, the span has p knots to each side, and the table has m = 195 places
unfoldable pub in_reach : ℕ → ℕ → ℕ → List Float → ℕ → Bool
in_reach m p n ks s = ltb 0 p && (leb p 64 && (leb n 2 && (leb p s && (ltb (s + p) (length ks) && eqb m 195))))

-- derivative k of function j, in rows 0 to n and columns 0 to p; +0.0 elsewhere
unfoldable pub ders_at : ℕ → ℕ → List Float → ℕ → Float → ℕ → ℕ → Float
ders_at p n ks s u k j = cond (leb k n && leb j p) (ders_of floats (left_of ks s u) (right_of ks s u) p k j) zero+

-- place i is row i / 65, column i % 65
unfoldable pub ders_table : ℕ → ℕ → List Float → ℕ → Float → List Float
ders_table p n ks s u = tabulate 195 (λ i. ders_at p n ks s u (i / 65) (i % 65))

-- a run of m numbers: that table, and +0.0 where there is none
unfoldable pub basis_table : ℕ → ℕ → ℕ → List Float → ℕ → Float → List Float
basis_table m p n ks s u = cond (in_reach m p n ks s) (ders_table p n ks s u) (zeros m)

-- ---- the loops
-- the first place after 0 of a row, and one past the last place before its end
unfoldable pub first_of : ℕ → ℕ → ℕ
first_of r k = max 1 (k - r)

unfoldable pub end_of : ℕ → ℕ → ℕ → ℕ
end_of p r k = min (k - 1) (p - r) + 1

-- a row is made, at the places that the next one reads
pub record RowDone (c : ℕ → ℕ → Float) (p r k : ℕ) (f : ℕ → Float) (after : List Float) (d : Float) : Type 0 where
  pub long : length after ≡ 3
  pub coefs : (j : ℕ) → k ≤ r + j → j ≤ k → j ≤ p - r → at after j ≡ coef_of floats c p r f k j
  pub sum : d ≡ der_of floats c p r f k

-- its first place
pub record StartDone (c : ℕ → ℕ → Float) (p r k : ℕ) (f : ℕ → Float) (after : List Float) (d : Float) : Type 0 where
  pub long : length after ≡ 3
  pub coefs : k ≤ r → at after 0 ≡ coef_of floats c p r f k 0
  pub sum : d ≡ start_of floats c p r f k

-- its places between the ends
pub record MiddleDone (c : ℕ → ℕ → Float) (p r k : ℕ) (f : ℕ → Float) (before after : List Float) (s d : Float) : Type 0 where
  pub long : length after ≡ 3
  pub kept : at after 0 ≡ at before 0
  pub coefs : (j : ℕ) → 0 < j → k ≤ r + j → j < k → j ≤ p - r → at after j ≡ coef_of floats c p r f k j
  pub sum : d ≡ sum_of floats c p r f k s (max 1 (k - r)) (min (k - 1) (p - r) + 1 - max 1 (k - r))

-- derivatives 1 and 2 of function r stand in rows 1 and 2, as far as they are asked for and the degree has them; nothing else changes
pub record FunctionDers (c : ℕ → ℕ → Float) (p r n : ℕ) (before after : List Float) : Type 0 where
  pub long : length after ≡ 195
  pub done : (k : ℕ) → 0 < k → k ≤ n → k ≤ p → cell after k r ≡ derivative_of floats c p r k
  pub rest : (k j : ℕ) → j < 65 → (j ≡ r → ⊥) ⊎ ((k ≡ 0) ⊎ ((n < k) ⊎ (p < k))) → cell after k j ≡ cell before k j

-- rows 0 to n of the first p + 1 columns: the functions of degree p and their derivatives before their factors, as far as the degree has them. Nothing else changes
pub record RawDers (p n : ℕ) (l r : ℕ → Float) (before after : List Float) : Type 0 where
  pub long : length after ≡ 195
  pub functions : (j : ℕ) → j ≤ p → cell after 0 j ≡ basis_of floats l r p j
  pub rows : (k j : ℕ) → 0 < k → k ≤ n → k ≤ p → j ≤ p → cell after k j ≡ derivative_of floats (table_of floats l r) p j k
  pub rest : (k j : ℕ) → j < 65 → (p < j) ⊎ ((n < k) ⊎ (p < k)) → cell after k j ≡ cell before k j

-- a row times f, in its first p + 1 columns
pub record Scaled (k p : ℕ) (f : Float) (before after : List Float) : Type 0 where
  pub long : length after ≡ 195
  pub row : (j : ℕ) → j ≤ p → cell after k j ≡ mul binary64 (cell before k j) f
  pub rest : (i j : ℕ) → j < 65 → (i ≡ k → ⊥) ⊎ (p < j) → cell after i j ≡ cell before i j

-- rows 0 to n of the first p + 1 columns: the functions of degree p and their derivatives, as far as the degree has them. Nothing else changes
pub record DersDone (p n : ℕ) (l r : ℕ → Float) (before after : List Float) : Type 0 where
  pub long : length after ≡ 195
  pub functions : (j : ℕ) → j ≤ p → cell after 0 j ≡ basis_of floats l r p j
  pub rows : (k j : ℕ) → 0 < k → k ≤ n → k ≤ p → j ≤ p → cell after k j ≡ mul binary64 (derivative_of floats (table_of floats l r) p j k) (factor_of floats p k)
  pub rest : (k j : ℕ) → j < 65 → (p < j) ⊎ ((n < k) ⊎ (p < k)) → cell after k j ≡ cell before k j
