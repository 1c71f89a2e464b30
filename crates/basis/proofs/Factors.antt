-- The factors of the derivatives.
-- Assumes nothing.
use Prim.Native.Nat.{ℕ, zero, suc, ◌+◌, ◌-◌, ◌*◌, ◌≤◌, ◌<◌}
use mathlib.Core.Path.{◌≡◌, refl, sym, ◌∙◌, ap, subst}
use mathlib.Core.Logic.{◌⊎◌, inl, inr}
use mathlib.Core.List.{List}
use native.Mathlib.Omega.{arith}
use native.Mathlib.Nat.{eq-or-lt_of_le}
use lib.ListN.{length, set, length-set}
use lib.Seq.{get_or-set_same}
use lib.IntN.{pos}
use lib.Ieee.{Float, nan, binary64, mul, of_int}
use Rattle.basis.specs.Basis.{cell}
use Rattle.basis.specs.Ders.{RawDers, Scaled, DersDone}
use Rattle.basis.proofs.Cells.{put-row, put-col}
use Rattle.exact.specs.Scheme.{derivative_of, table_of, factor_of}
use Rattle.basis.specs.Floats.{floats}

-- the columns below j are done
pub record InScale (k : ℕ) (f : Float) (t₀ t : List Float) (j : ℕ) : Type 0 where
  pub long : length t ≡ 195
  pub row : (i : ℕ) → i < j → cell t k i ≡ mul binary64 (cell t₀ k i) f
  pub rest : (h i : ℕ) → i < 65 → (h ≡ k → ⊥) ⊎ (j ≤ i) → cell t h i ≡ cell t₀ h i

module _ (k p : ℕ) (K : k ≤ 2) (P : p ≤ 64) (f : Float) (t₀ : List Float) where
  pub scale-start : length t₀ ≡ 195 → InScale k f t₀ t₀ 0
  scale-start L = record { long = L; row = λ i b. absurd (omega arith); rest = λ h i J q. refl }

  module _ (t : List Float) (j : ℕ) (b : j ≤ p) (I : InScale k f t₀ t j) where
    value : Float
    value = mul binary64 (cell t k j) f

    row' : (i : ℕ) → (i ≡ j) ⊎ (i < j) → cell (set t (k * 65 + j) (mul binary64 (cell t k j) f)) k i ≡ mul binary64 (cell t₀ k i) f
    row' i (inl e) =
        subst (λ (m : ℕ). cell (set t (k * 65 + j) (mul binary64 (cell t k j) f)) k m ≡ mul binary64 (cell t₀ k m) f) (sym e)
        (get_or-set_same t (k * 65 + j) (mul binary64 (cell t k j) f) nan (fits I.long) ∙ ap (λ (x : Float). mul binary64 x f) (I.rest k j (omega arith) (inr (omega arith))))
      where
        fits : length t ≡ 195 → k * 65 + j < length t
        fits h = omega arith
    row' i (inr l) = put-col t k j k i (mul binary64 (cell t k j) f) (omega arith) (omega arith) (λ q. omega arith) ∙ I.row i l

    rest' : (h i : ℕ) → i < 65 → (h ≡ k → ⊥) ⊎ (j + 1 ≤ i) → cell (set t (k * 65 + j) (mul binary64 (cell t k j) f)) h i ≡ cell t₀ h i
    rest' h i J (inl q) = put-row t k j h i (mul binary64 (cell t k j) f) (omega arith) J q ∙ I.rest h i J (inl q)
    rest' h i J (inr l) = put-col t k j h i (mul binary64 (cell t k j) f) (omega arith) J (λ q. omega arith) ∙ I.rest h i J (inr (omega arith))

    pub scale-more : InScale k f t₀ (set t (k * 65 + j) (mul binary64 (cell t k j) f)) (j + 1)
    scale-more = record {
      long = length-set t (k * 65 + j) (mul binary64 (cell t k j) f) ∙ I.long;
      row = λ i l. row' i (eq-or-lt_of_le (omega arith));
      rest = rest';
    }

  pub scale-end : (t : List Float) → InScale k f t₀ t (p + 1) → Scaled k p f t₀ t
  scale-end t I = record {
    long = I.long;
    row = λ j b. I.row j (omega arith);
    rest = λ i j J q. I.rest i j J (move j q);
  }
    where
      move : (j : ℕ) {X : Type 0} → X ⊎ (p < j) → X ⊎ (p + 1 ≤ j)
      move j (inl x) = inl x
      move j (inr h) = inr (omega arith)

module _ (p n : ℕ) (P : p ≤ 64) (l r : ℕ → Float) (t₀ t : List Float) (D : RawDers p n l r t₀ t) where
  pub done_none : n ≡ 0 → DersDone p n l r t₀ t
  done_none e = record { long = D.long; functions = D.functions; rows = λ k j u v w b. absurd (omega arith); rest = D.rest }

  module _ (pp : 0 < p) (f : Float) (F : f ≡ of_int binary64 (pos p)) (t1 : List Float) (S : Scaled 1 p f t t1) (N : 0 < n) where
    one-row : (j : ℕ) → j ≤ p → cell t1 1 j ≡ mul binary64 (derivative_of floats (table_of floats l r) p j 1) (factor_of floats p 1)
    unfolding factor_of
    one-row j b = S.row j b ∙ (ap (λ (x : Float). mul binary64 x f) (D.rows 1 j (omega arith) N pp b) ∙ ap (λ (x : Float). mul binary64 (derivative_of floats (table_of floats l r) p j 1) x) F)

    away : (k j : ℕ) → j < 65 → (p < j) ⊎ ((n < k) ⊎ (p < k)) → cell t1 k j ≡ cell t k j
    away k j J (inl h) = S.rest k j J (inr h)
    away k j J (inr (inl h)) = S.rest k j J (inl (λ q. omega arith))
    away k j J (inr (inr h)) = S.rest k j J (inl (λ q. omega arith))

    pub done-one : (n ≡ 1) ⊎ (p ≡ 1) → DersDone p n l r t₀ t1
    done-one o = record {
      long = S.long;
      functions = λ j b. S.rest 0 j (omega arith) (inl (λ q. omega arith)) ∙ D.functions j b;
      rows = λ k j u v w b. subst (λ (m : ℕ). cell t1 m j ≡ mul binary64 (derivative_of floats (table_of floats l r) p j m) (factor_of floats p m)) (sym (only k u v w o)) (one-row j b);
      rest = λ k j J q. away k j J q ∙ D.rest k j J q;
    }
      where
        only : (k : ℕ) → 0 < k → k ≤ n → k ≤ p → (n ≡ 1) ⊎ (p ≡ 1) → k ≡ 1
        only k u v w (inl q) = omega arith
        only k u v w (inr q) = omega arith

    module _ (two : n ≡ 2) (pt : 2 ≤ p) (g : Float) (G : g ≡ mul binary64 f (of_int binary64 (pos (p - 1)))) (t2 : List Float) (Q : Scaled 2 p g t1 t2) where
      factor-two : g ≡ factor_of floats p 2
      unfolding factor_of
      factor-two = G ∙ ap (λ (x : Float). mul binary64 x (of_int binary64 (pos (p - 1)))) F

      rows' : (k j : ℕ) → 0 < k → k ≤ 2 → j ≤ p → cell t2 k j ≡ mul binary64 (derivative_of floats (table_of floats l r) p j k) (factor_of floats p k)
      rows' zero j u v b = absurd (omega arith)
      rows' (suc zero) j u v b = Q.rest 1 j (omega arith) (inl (λ q. omega arith)) ∙ one-row j b
      rows' (suc (suc zero)) j u v b =
          Q.row j b ∙ (ap (λ (x : Float). mul binary64 x g) (S.rest 2 j (omega arith) (inl (λ q. omega arith)) ∙ D.rows 2 j (omega arith) (omega arith) pt b)
          ∙ ap (λ (x : Float). mul binary64 (derivative_of floats (table_of floats l r) p j 2) x) factor-two)
      rows' (suc (suc (suc k))) j u v b = absurd (omega arith)

      away2 : (k j : ℕ) → j < 65 → (p < j) ⊎ ((n < k) ⊎ (p < k)) → cell t2 k j ≡ cell t1 k j
      away2 k j J (inl h) = Q.rest k j J (inr h)
      away2 k j J (inr (inl h)) = Q.rest k j J (inl (λ q. omega arith))
      away2 k j J (inr (inr h)) = Q.rest k j J (inl (λ q. omega arith))

      pub done-two : DersDone p n l r t₀ t2
      done-two = record {
        long = Q.long;
        functions = λ j b. Q.rest 0 j (omega arith) (inl (λ q. omega arith)) ∙ (S.rest 0 j (omega arith) (inl (λ q. omega arith)) ∙ D.functions j b);
        rows = λ k j u v w b. rows' k j u (omega arith) b;
        rest = λ k j J q. away2 k j J q ∙ (away k j J q ∙ D.rest k j J q);
      }
