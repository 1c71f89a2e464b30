-- Rows of many answers, one after the other: what a call answers, and what it leaves in a lent run.
-- Assumes nothing.
use Rattle.std.specs.Prelude.{Result, Ok, Err}
use Rattle.std.specs.Prelude.{ℕ, ◌-◌, cond, ◌≡◌, List, [], ◌∷◌, ◌++◌, length, replicate, eqb, Float}
use Rattle.doubles.specs.Value.{zero+}
use Rattle.knots.specs.Clear.{zeros}
use Rattle.knots.specs.declared.refusal.Refusal.{Refusal}

-- the rows of xs
unfoldable pub rows_by : {X Y : Type 0} → (X → List Y) → List X → List Y
rows_by f [] = []
rows_by f (x ∷ xs) = f x ++ rows_by f xs

-- the w numbers of an answer's row: its values, and +0.0 where it has none
abbrev pub row_of : ℕ → List Float → List Float
row_of w [] = zeros w
row_of w (x ∷ xs) = x ∷ xs

-- n numbers: the rows, and z behind them; after a refusal z alone
unfoldable pub left : {Y : Type 0} → Y → Refusal → ℕ → List Y → List Y
left z r n l = cond (eqb r.number 0) (l ++ replicate (n - length l) z) (replicate n z)

-- how many rows, or the refusal
abbrev pub answer : Refusal → ℕ → Result ℕ Refusal
answer r n = cond (eqb r.number 0) (Ok n) (Err r)

-- the promise of a call: rows of xs, by f and h, in lent runs of a and b numbers that hold ns and rs afterwards; r is the refusal before any row
pub record RowsMeet {X : Type 0} (r : Refusal) (xs : List X) (f : X → List ℕ) (h : X → List Float) (a b : ℕ) (ns : List ℕ) (rs : List Float) (A : Result ℕ Refusal) : Type 0 where
  pub answered : A ≡ answer r (length xs)
  pub numbers : ns ≡ left 0 r a (rows_by f xs)
  pub rows : rs ≡ left zero+ r b (rows_by h xs)
