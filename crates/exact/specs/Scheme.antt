-- Algorithms A2.2 and A2.3 of The NURBS Book over any arithmetic, operation by operation in the book's order. At doubles they are what the code computes;
-- at fractions they are the basis functions and their derivatives (proofs/Scheme). l k and r k are the knot differences left[k] and right[k].
use Prim.Native.Nat.{ℕ, zero, suc, ◌+◌, ◌-◌, min, max}
use Rattle.std.proofs.Math.Bool.{cond}
use Rattle.std.specs.Prelude.{leb, ltb, eqb}

pub record Arithmetic (X : Type 0) : Type 0 where
  pub add : X → X → X
  pub sub : X → X → X
  pub mul : X → X → X
  pub div : X → X → X
  pub neg : X → X
  pub nought : X
  pub one : X
  pub whole : ℕ → X

module _ {X : Type 0} (A : Arithmetic X) (l r : ℕ → X) where
  -- ---- A2.2

  -- the width of the knots under function i of degree j
  unfoldable pub width_of : ℕ → ℕ → X
  width_of j i = A.add (r (i + 1)) (l (j - i))

  module _ (f : ℕ → X) (j : ℕ) where
    -- function i of the column before over that width
    unfoldable pub share_of : ℕ → X
    unfolding width_of
    share_of i = A.div (f i) (width_of j i)

    -- what function i - 1 hands on
    unfoldable pub carry_of : ℕ → X
    unfolding share_of
    carry_of zero = A.nought
    carry_of (suc i) = A.mul (l (j - i)) (share_of i)

    -- function i below j of the column
    unfoldable pub part_of : ℕ → X
    unfolding share_of carry_of
    part_of i = A.add (carry_of i) (A.mul (r (i + 1)) (share_of i))

    -- function i of the column
    unfoldable pub next_of : ℕ → X
    unfolding part_of carry_of
    next_of i = cond (ltb i j) (part_of i) (carry_of i)

  -- function i of degree j
  unfoldable pub basis_of : ℕ → ℕ → X
  unfolding next_of
  basis_of zero i = A.one
  basis_of (suc j) i = next_of (basis_of j) (suc j) i

  -- the table of both: functions from the diagonal up, widths below it
  unfoldable pub table_of : ℕ → ℕ → X
  unfolding basis_of width_of
  table_of a b = cond (leb a b) (basis_of b a) (width_of a b)

-- ---- A2.3: c is that table, p the degree, r the function. Row k of the coefficients is made of row k - 1, f
module _ {X : Type 0} (A : Arithmetic X) (c : ℕ → ℕ → X) (p r : ℕ) where
  module _ (f : ℕ → X) (k : ℕ) where
    -- the numerator of coefficient j: the ends of a row have one neighbour, the others two
    unfoldable pub num_of : ℕ → X
    num_of j = cond (eqb j 0) (f 0) (cond (eqb j k) (A.neg (f (k - 1))) (A.sub (f j) (f (j - 1))))

    -- coefficient j
    unfoldable pub coef_of : ℕ → X
    unfolding num_of
    coef_of j = A.div (num_of j) (c (p - k + 1) (r + j - k))

    -- what it adds to the derivative
    unfoldable pub term_of : ℕ → X
    unfolding coef_of
    term_of j = A.mul (coef_of j) (c (r + j - k) (p - k))

    -- s and n terms from place j on, added one by one
    unfoldable pub sum_of : X → ℕ → ℕ → X
    unfolding term_of
    sum_of s j zero = s
    sum_of s j (suc n) = A.add (sum_of s j n) (term_of (j + n))

    -- the sum starts with the term at 0 where the row reaches that far, and with 0 elsewhere
    unfoldable pub start_of : X
    unfolding term_of
    start_of = cond (leb k r) (term_of 0) A.nought

    -- derivative k before its factor: the terms at the places max 1 (k - r) up to min k (p - r)
    unfoldable pub der_of : X
    unfolding sum_of start_of
    der_of = sum_of start_of (max 1 (k - r)) (min k (p - r) + 1 - max 1 (k - r))

  -- row k of the coefficients
  unfoldable pub row_of : ℕ → ℕ → X
  unfolding coef_of
  row_of zero j = A.one
  row_of (suc k) j = coef_of (row_of k) (suc k) j

  -- derivative k of function r before its factor
  unfoldable pub derivative_of : ℕ → X
  unfolding der_of row_of
  derivative_of k = der_of (row_of (k - 1)) k

-- p (p - 1) .. (p - k + 1), multiplied one after the other from p
unfoldable pub factor_of : {X : Type 0} → Arithmetic X → ℕ → ℕ → X
factor_of A p zero = A.one
factor_of A p (suc zero) = A.whole p
factor_of A p (suc (suc k)) = A.mul (factor_of A p (suc k)) (A.whole (p - suc k))

-- derivative k of function j of degree p: 0 above the degree
unfoldable pub ders_of : {X : Type 0} → Arithmetic X → (ℕ → X) → (ℕ → X) → ℕ → ℕ → ℕ → X
unfolding basis_of derivative_of table_of factor_of
ders_of A l r p zero j = basis_of A l r p j
ders_of A l r p (suc k) j = cond (ltb p (suc k)) A.nought (A.mul (derivative_of A (table_of A l r) p j (suc k)) (factor_of A p (suc k)))
