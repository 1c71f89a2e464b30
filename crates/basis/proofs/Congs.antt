-- A row of coefficients and its derivative depend on the row before only at the places that it holds, and on the table only up to row and column p.
-- Assumes nothing.
use Prim.Native.Nat.{ℕ, zero, suc, ◌+◌, ◌-◌, ◌≤◌, ◌<◌, min, max, zero-le}
use mathlib.Core.Path.{◌≡◌, refl, ap, ap₂}
use mathlib.Core.Logic.{inl, inr}
use native.Mathlib.Omega.{arith}
use native.Mathlib.Nat.{eq-or-lt_of_le}
use borrow.Author.Tests.{eq-eqb, ne_eqb, le-leb, lt-leb}
use lib.Ieee.{Float, binary64, add, sub, mul, div, neg}
use Rattle.runs.proofs.Cases.{lt-or-ge, eq-zero}
use Rattle.exact.specs.Scheme.{num_of, coef_of, term_of, sum_of, start_of, der_of, row_of, derivative_of}
use Rattle.basis.specs.Floats.{floats}

-- two rows agree at the places that row k - 1 holds
abbrev pub Same : ℕ → ℕ → ℕ → (ℕ → Float) → (ℕ → Float) → Type 0
Same p r k f g = (j : ℕ) → k ≤ r + j + 1 → j + 1 ≤ k → j ≤ p - r → f j ≡ g j

-- two tables agree up to row and column p
abbrev pub SameTable : ℕ → (ℕ → ℕ → Float) → (ℕ → ℕ → Float) → Type 0
SameTable p c c' = (a b : ℕ) → a ≤ p → b ≤ p → c a b ≡ c' a b

module _ (p r : ℕ) (R : r ≤ p) (c c' : ℕ → ℕ → Float) (table : SameTable p c c') where
  module _ (k : ℕ) (K : 0 < k) (kp : k ≤ p) (f g : ℕ → Float) (same : Same p r k f g) where
    module _ (j : ℕ) (a : k ≤ r + j) (b : j ≤ k) (d : j ≤ p - r) where
      num-cong : num_of floats c p r f k j ≡ num_of floats c' p r g k j
      unfolding num_of
      num-cong = elim (eq-zero j) [
        | inl e ↦ simp (eq-eqb j 0 e) (same 0 (omega arith) (omega arith) zero-le)
        | inr z ↦ elim (eq-or-lt_of_le b) [
          | inl e ↦ simp (ne_eqb j 0 (λ q. omega arith), eq-eqb j k e) (ap neg (same (k - 1) (omega arith) (omega arith) (down j (k - 1) (omega arith) d)))
          | inr l ↦ simp (ne_eqb j 0 (λ q. omega arith), ne_eqb j k (λ q. omega arith))
              (ap₂ (λ (x y : Float). sub binary64 x y) (same j (omega arith) (omega arith) d) (same (j - 1) (omega arith) (omega arith) (down j (j - 1) (omega arith) d)))
        ]
      ]
        where
          down : (j i : ℕ) → i ≤ j → j ≤ p - r → i ≤ p - r
          down j i l h = omega arith

      place : r + j - k ≤ p
      place = omega arith

      pub coef-cong : coef_of floats c p r f k j ≡ coef_of floats c' p r g k j
      unfolding coef_of
      coef-cong = ap₂ (λ (x y : Float). div binary64 x y) num-cong (table (p - k + 1) (r + j - k) (omega arith) place)

      pub term-cong : term_of floats c p r f k j ≡ term_of floats c' p r g k j
      unfolding term_of
      term-cong = ap₂ (λ (x y : Float). mul binary64 x y) coef-cong (table (r + j - k) (p - k) place (omega arith))

    sum-cong : (s t : Float) → s ≡ t → (J M n : ℕ) → k ≤ r + J → M ≤ k → M ≤ p - r → n ≤ M + 1 - J → sum_of floats c p r f k s J n ≡ sum_of floats c' p r g k t J n
    unfolding sum_of
    sum-cong s t e J M zero a b d h = e
    sum-cong s t e J M (suc n) a b d h =
        ap₂ (λ (x y : Float). add binary64 x y) (sum-cong s t e J M n a b d (less h))
        (term-cong (J + n) (omega arith) (up b (top h)) (up d (top h)))
      where
        less : suc n ≤ M + 1 - J → n ≤ M + 1 - J
        less h = omega arith

        top : suc n ≤ M + 1 - J → J + n ≤ M
        top h = omega arith

        up : {m : ℕ} → M ≤ m → J + n ≤ M → J + n ≤ m
        up x y = omega arith

    pub start-cong : start_of floats c p r f k ≡ start_of floats c' p r g k
    unfolding start_of
    start-cong = elim (lt-or-ge r k) [
      | inl l ↦ simp (lt-leb k r l)
      | inr h ↦ simp (le-leb k r h) (term-cong 0 (omega arith) zero-le zero-le)
    ]

    pub der-cong : der_of floats c p r f k ≡ der_of floats c' p r g k
    unfolding der_of
    der-cong =
        sum-cong
        (start_of floats c p r f k) (start_of floats c' p r g k) start-cong (max 1 (k - r)) (min k (p - r)) (min k (p - r) + 1 - max 1 (k - r)) (omega arith) (omega arith) (omega arith) (omega arith)

  -- row k of the coefficients, at the places that it holds
  pub row-cong : (k : ℕ) → k ≤ p → (j : ℕ) → k ≤ r + j → j ≤ k → j ≤ p - r → row_of floats c p r k j ≡ row_of floats c' p r k j
  unfolding row_of
  row-cong zero kp j a b d = refl
  row-cong (suc k) kp j a b d =
      coef-cong (suc k) (omega arith) kp (row_of floats c p r k) (row_of floats c' p r k) (λ i u v w. row-cong k (omega arith) i (omega arith) (omega arith) w) j a b d

  pub derivative-cong : (k : ℕ) → 0 < k → k ≤ p → derivative_of floats c p r k ≡ derivative_of floats c' p r k
  unfolding derivative_of
  derivative-cong k K kp =
      der-cong k K kp (row_of floats c p r (k - 1)) (row_of floats c' p r (k - 1)) (λ i u v w. row-cong (k - 1) (omega arith) i (omega arith) (omega arith) w)
