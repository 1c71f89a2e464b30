-- The first two derivatives of a function, from the rows that give them.
-- Assumes nothing.
use Prim.Native.Nat.{ℕ, zero, suc, ◌+◌, ◌*◌, ◌≤◌, ◌<◌}
use mathlib.Core.Path.{◌≡◌, refl, sym, ◌∙◌, subst}
use mathlib.Core.Logic.{◌⊎◌, inl, inr}
use mathlib.Core.List.{List}
use native.Mathlib.Omega.{arith}
use lib.ListN.{length, set, length-set}
use lib.Seq.{get_or-set_same}
use lib.Ieee.{Float, nan}
use Rattle.doubles.specs.Run.{at}
use Rattle.basis.specs.Basis.{cell}
use Rattle.basis.specs.Ders.{RowDone, FunctionDers}
use Rattle.basis.proofs.Congs.{Same, coef-cong, der-cong}
use Rattle.basis.proofs.Cells.{put-row, put-col}
use Rattle.exact.specs.Scheme.{row_of, derivative_of}
use Rattle.basis.specs.Floats.{floats}

module _ (c : ℕ → ℕ → Float) (p r : ℕ) (R : r ≤ p) (one-le : 1 ≤ p) (a b : List Float) (x : Float) (A : at a 0 ≡ floats.one) (D : RowDone c p r 1 (at a) b x) where
  same-one : Same p r 1 (at a) (row_of floats c p r 0)
  unfolding row_of
  same-one zero u v w = A
  same-one (suc j) u v w = absurd (omega arith)

  pub first-is : x ≡ derivative_of floats c p r 1
  unfolding derivative_of
  first-is = D.sum ∙ der-cong p r R c c (λ u v w z. refl) 1 (omega arith) one-le (at a) (row_of floats c p r 0) same-one

  same-two : Same p r 2 (at b) (row_of floats c p r 1)
  unfolding row_of
  same-two j u v w = D.coefs j (omega arith) (omega arith) w ∙ coef-cong p r R c c (λ u v w z. refl) 1 (omega arith) one-le (at a) (row_of floats c p r 0) same-one j (omega arith) (omega arith) w

  pub second_is : 2 ≤ p → (t : List Float) (y : Float) → RowDone c p r 2 (at b) t y → y ≡ derivative_of floats c p r 2
  unfolding derivative_of
  second_is two-le t y E = E.sum ∙ der-cong p r R c c (λ u v w z. refl) 2 (omega arith) two-le (at b) (row_of floats c p r 1) same-two

module _ (c : ℕ → ℕ → Float) (p r n : ℕ) (R : r < 65) (t : List Float) (L : length t ≡ 195) where
  pub ders-none : n ≡ 0 → FunctionDers c p r n t t
  ders-none e = record { long = L; done = λ k u v w. absurd (omega arith); rest = λ k j u v. refl }

  -- a store in row 1 or 2 of column r
  put : (s : List Float) → length s ≡ 195 → (k : ℕ) → k ≤ 2 → (x : Float) → cell (set s (k * 65 + r) x) k r ≡ x
  put s l k b x = get_or-set_same s (k * 65 + r) x nan (omega arith)

  away : (s : List Float) (k : ℕ) (x : Float) → 0 < k → k ≤ n → k ≤ p → (i j : ℕ) → j < 65 → (j ≡ r → ⊥) ⊎ ((i ≡ 0) ⊎ ((n < i) ⊎ (p < i))) → cell (set s (k * 65 + r) x) i j ≡ cell s i j
  away s k x z b y i j J (inl h) = put-col s k r i j x R J h
  away s k x z b y i j J (inr (inl e)) = put-row s k r i j x R J (λ q. omega arith)
  away s k x z b y i j J (inr (inr (inl g))) = put-row s k r i j x R J (λ q. omega arith)
  away s k x z b y i j J (inr (inr (inr g))) = put-row s k r i j x R J (λ q. omega arith)

  pub ders-one : 0 < p → (x : Float) → x ≡ derivative_of floats c p r 1 → 0 < n → (n ≡ 1) ⊎ (p ≡ 1) → FunctionDers c p r n t (set t (1 * 65 + r) x)
  ders-one pp x e h o = record {
    long = length-set t (1 * 65 + r) x ∙ L;
    done = λ k u v w. subst (λ (m : ℕ). cell (set t (1 * 65 + r) x) m r ≡ derivative_of floats c p r m) (sym (only k u v w o)) (put t L 1 (omega arith) x ∙ e);
    rest = λ k j J q. away t 1 x (omega arith) h pp k j J q;
  }
    where
      only : (k : ℕ) → 0 < k → k ≤ n → k ≤ p → (n ≡ 1) ⊎ (p ≡ 1) → k ≡ 1
      only k u v w (inl q) = omega arith
      only k u v w (inr q) = omega arith

  pub ders-two : 2 ≤ p → (x y : Float) → x ≡ derivative_of floats c p r 1 → y ≡ derivative_of floats c p r 2 → n ≡ 2 → FunctionDers c p r n t (set (set t (1 * 65 + r) x) (2 * 65 + r) y)
  ders-two pp x y e f h = record {
    long = length-set (set t (1 * 65 + r) x) (2 * 65 + r) y ∙ L';
    done = λ k u v w. case k u (omega arith);
    rest = λ k j J q. away (set t (1 * 65 + r) x) 2 y (omega arith) (omega arith) pp k j J q ∙ away t 1 x (omega arith) (omega arith) (omega arith) k j J q;
  }
    where
      L' : length (set t (1 * 65 + r) x) ≡ 195
      L' = length-set t (1 * 65 + r) x ∙ L

      case : (k : ℕ) → 0 < k → k ≤ 2 → cell (set (set t (1 * 65 + r) x) (2 * 65 + r) y) k r ≡ derivative_of floats c p r k
      case zero u v = absurd (omega arith)
      case (suc zero) u v = put-row (set t (1 * 65 + r) x) 2 r 1 r y R R (λ q. omega arith) ∙ (put t L 1 (omega arith) x ∙ e)
      case (suc (suc zero)) u v = put (set t (1 * 65 + r) x) L' 2 (omega arith) y ∙ f
      case (suc (suc (suc k))) u v = absurd (omega arith)
