-- Sums and largest weights over the active part of a net, row by row.
-- Assumes nothing.
use Prim.Native.Nat.{ℕ, zero, suc, ◌+◌, ◌*◌, ◌≤◌, ◌<◌}
use mathlib.Core.Bool.{Bool, false}
use mathlib.Core.Path.{◌≡◌, refl, ◌∙◌, ap, ap₂, subst}
use mathlib.Core.List.{List}
use native.Mathlib.Omega.{arith}
use native.Mathlib.Nat.{add-zero, suc-mul, mul-le-mul_right}
use native.Mathlib.Numerals.{add-one}
use lib.Ieee.{Float, binary64, mul}
use Rattle.doubles.specs.Run.{at}
use Rattle.doubles.specs.Value.{zero+}
use Rattle.evaluate.specs.Controls.{no_sums, sums_from, term_of, row_term}
use Rattle.runs.specs.Scale.{weight_of}
use Rattle.runs.specs.Larger.{largest_from}
use Rattle.runs.specs.Point.{point_of}
use Rattle.evaluate.specs.Surface.{NetReach, net_largest, net_sums}
use Rattle.runs.specs.declared.vector.Vector.{Vector}
use Rattle.evaluate.specs.declared.sums.Sums.{Sums}
use Rattle.evaluate.proofs.Summed.{sums-cong}

-- place i of row and j of column lies in a net of m rows and n columns
pub net-place : (m n i j : ℕ) → i < m → j < n → i * n + j < m * n
net-place m n i j I J =
    let h : suc i * n ≤ m * n = mul-le-mul_right n I in
    let e : suc i * n ≡ i * n + n = suc-mul i n in
    omega arith

-- the first active place
pub corner-in : (m n a p b q : ℕ) → NetReach m n a p b q → a * n + b + q < m
corner-in m n a p b q h = subst (λ (i : ℕ). i * n + b + q < m) (add-zero a) (h 0 (omega arith))

module _ (ws : List Float) (n a b c : ℕ) where
  pub largest-net-none : zero+ ≡ net_largest ws n a b c 0
  unfolding net_largest
  largest-net-none = refl

  pub largest-net-more : (k : ℕ) (x r : Float) → x ≡ net_largest ws n a b c k → r ≡ largest_from x (λ l. at ws ((a + k) * n + b + l)) c → r ≡ net_largest ws n a b c (k + 1)
  unfolding net_largest
  largest-net-more k x r e h = rw add-one (h ∙ ap (λ (y : Float). largest_from y (λ l. at ws ((a + k) * n + b + l)) c) e)

module _ (ps : List Float) (g : Bool) (ws : List Float) (m : Float) (o : Vector) (n a b c : ℕ) where
  pub net-none : (f h : ℕ → Float) → no_sums ≡ net_sums ps g ws m o n a b f h c 0
  unfolding net_sums
  net-none f h = refl

  pub net-more : (f h : ℕ → Float) (k : ℕ) (s r : Sums) → s ≡ net_sums ps g ws m o n a b f h c k
      → r ≡ sums_from s (row_term false ps g ws m o ((a + k) * n + b) (λ l. mul binary64 (f k) (h l))) c → r ≡ net_sums ps g ws m o n a b f h c (k + 1)
  unfolding net_sums
  net-more f h k s r e q = rw add-one (q ∙ ap (λ (x : Sums). sums_from x (row_term false ps g ws m o ((a + k) * n + b) (λ l. mul binary64 (f k) (h l))) c) e)

  -- the sums depend only on the numbers that they use
  pub net-cong : (f f' h h' : ℕ → Float) (r : ℕ) → ((k : ℕ) → k < r → f k ≡ f' k) → ((l : ℕ) → l < c → h l ≡ h' l) → net_sums ps g ws m o n a b f h c r ≡ net_sums ps g ws m o n a b f' h' c r
  unfolding net_sums row_term
  net-cong f f' h h' zero F H = refl
  net-cong f f' h h' (suc k) F H =
      ap (λ (x : Sums). sums_from x (row f h) c) (net-cong f f' h h' k (λ i l. F i (omega arith)) H)
      ∙ sums-cong (net_sums ps g ws m o n a b f' h' c k) (row f h) (row f' h') c (λ l b. same l b)
    where
      row : (ℕ → Float) → (ℕ → Float) → ℕ → Sums
      row f h = row_term false ps g ws m o ((a + k) * n + b) (λ l. mul binary64 (f k) (h l))

      same : (l : ℕ) → l < c → row f h l ≡ row f' h' l
      same l e = ap₂ (λ (x y : Float). term_of false o (point_of ps ((a + k) * n + b + l)) (weight_of g ws m ((a + k) * n + b + l)) (mul binary64 x y)) (F k (omega arith)) (H l e)
