-- The derivatives of every function of a span, one function after the other.
-- Assumes nothing.
use Prim.Native.Nat.{ℕ, ◌+◌, ◌*◌, ◌≤◌, ◌<◌}
use mathlib.Core.Path.{◌≡◌, refl, sym, ◌∙◌, ap, subst}
use mathlib.Core.Logic.{◌⊎◌, inl, inr}
use mathlib.Core.List.{List}
use native.Mathlib.Omega.{arith}
use native.Mathlib.Nat.{zero-add, eq-or-lt_of_le}
use borrow.Author.Tests.{le-leb, lt-leb}
use lib.ListN.{length, set}
use lib.Seq.{get_or-set_same}
use lib.Ieee.{Float, nan}
use Rattle.basis.specs.Basis.{cell, TableDone}
use Rattle.basis.specs.Ders.{FunctionDers, RawDers}
use Rattle.runs.proofs.Cases.{lt-or-ge}
use Rattle.basis.proofs.Cells.{put-row, put-col}
use Rattle.basis.proofs.Congs.{SameTable, derivative-cong}
use Rattle.exact.specs.Scheme.{derivative_of, table_of}
use Rattle.basis.specs.Floats.{floats}

-- the functions below r are done
pub record InDers (c : ℕ → ℕ → Float) (p n : ℕ) (t₀ t : List Float) (r : ℕ) : Type 0 where
  pub long : length t ≡ 195
  pub functions : (j : ℕ) → j < r → cell t 0 j ≡ c j p
  pub rows : (k j : ℕ) → 0 < k → k ≤ n → k ≤ p → j < r → cell t k j ≡ derivative_of floats c p j k
  pub rest : (k j : ℕ) → j < 65 → (r ≤ j) ⊎ ((n < k) ⊎ (p < k)) → cell t k j ≡ cell t₀ k j

module _ (c : ℕ → ℕ → Float) (p n : ℕ) (P : p ≤ 64) (t₀ : List Float) where
  pub ders-start : length t₀ ≡ 195 → InDers c p n t₀ t₀ 0
  ders-start L = record { long = L; functions = λ j b. absurd (omega arith); rows = λ k j u v w b. absurd (omega arith); rest = λ k j J q. refl }

  module _ (pp : 0 < p) (r : ℕ) (R : r ≤ p) (t t' : List Float) (I : InDers c p n t₀ t r) (D : FunctionDers c p r n (set t r (c r p)) t') where
    -- the store is one of row 0
    here : set t r (c r p) ≡ set t (0 * 65 + r) (c r p)
    here = ap (λ (m : ℕ). set t m (c r p)) (sym (zero-add r))

    kept : (k j : ℕ) → j < 65 → (j ≡ r → ⊥) ⊎ (0 < k) → cell (set t r (c r p)) k j ≡ cell t k j
    kept k j J (inl h) = ap (λ (l : List Float). cell l k j) here ∙ put-col t 0 r k j (c r p) (omega arith) J h
    kept k j J (inr h) = ap (λ (l : List Float). cell l k j) here ∙ put-row t 0 r k j (c r p) (omega arith) J (λ q. omega arith)

    stored : cell (set t r (c r p)) 0 r ≡ c r p
    stored = ap (λ (l : List Float). cell l 0 r) here ∙ get_or-set_same t (0 * 65 + r) (c r p) nan (fits I.long)
      where
        fits : length t ≡ 195 → 0 * 65 + r < length t
        fits h = omega arith

    split : (j : ℕ) → j < r + 1 → (j ≡ r) ⊎ (j < r)
    split j b = eq-or-lt_of_le (omega arith)

    functions' : (j : ℕ) → (j ≡ r) ⊎ (j < r) → cell t' 0 j ≡ c j p
    functions' j (inl e) = subst (λ (m : ℕ). cell t' 0 m ≡ c m p) (sym e) (D.rest 0 r (omega arith) (inr (inl refl)) ∙ stored)
    functions' j (inr l) = D.rest 0 j (omega arith) (inr (inl refl)) ∙ (kept 0 j (omega arith) (inl (λ q. omega arith)) ∙ I.functions j l)

    rows' : (k j : ℕ) → 0 < k → k ≤ n → k ≤ p → (j ≡ r) ⊎ (j < r) → cell t' k j ≡ derivative_of floats c p j k
    rows' k j u v w (inl e) = subst (λ (m : ℕ). cell t' k m ≡ derivative_of floats c p m k) (sym e) (D.done k u v w)
    rows' k j u v w (inr l) = D.rest k j (omega arith) (inl (λ q. omega arith)) ∙ (kept k j (omega arith) (inr u) ∙ I.rows k j u v w l)

    rest' : (k j : ℕ) → j < 65 → (r + 1 ≤ j) ⊎ ((n < k) ⊎ (p < k)) → cell t' k j ≡ cell t₀ k j
    rest' k j J (inl h) = D.rest k j J (inl (λ q. omega arith)) ∙ (kept k j J (inl (λ q. omega arith)) ∙ I.rest k j J (inl (omega arith)))
    rest' k j J (inr (inl h)) = D.rest k j J (inr (inr (inl h))) ∙ (kept k j J (inr (omega arith)) ∙ I.rest k j J (inr (inl h)))
    rest' k j J (inr (inr h)) = D.rest k j J (inr (inr (inr h))) ∙ (kept k j J (inr (omega arith)) ∙ I.rest k j J (inr (inr h)))

    pub ders-more : InDers c p n t₀ t' (r + 1)
    ders-more = record {
      long = D.long;
      functions = λ j b. functions' j (split j b);
      rows = λ k j u v w b. rows' k j u v w (split j b);
      rest = rest';
    }

-- what the table holds
module _ (p n : ℕ) (l r : ℕ → Float) (t : List Float) (D : TableDone (p + 1) l r t) where
  same-table : SameTable p (cell t) (table_of floats l r)
  unfolding table_of
  same-table a b A B = elim (lt-or-ge b a) [
    | inl h ↦ simp (lt-leb a b h) (D.widths a b (omega arith) h)
    | inr g ↦ simp (le-leb a b g) (D.values b a (omega arith) g)
  ]

  pub ders-end : (t₀ t' : List Float) → InDers (cell t) p n t₀ t' (p + 1) → RawDers p n l r t₀ t'
  ders-end t₀ t' I = record {
    long = I.long;
    functions = λ j b. I.functions j (omega arith) ∙ D.values p j (omega arith) b;
    rows = λ k j u v w b. I.rows k j u v w (omega arith) ∙ derivative-cong p j b (cell t) (table_of floats l r) same-table k u w;
    rest = λ k j J q. I.rest k j J (move j q);
  }
    where
      move : (j : ℕ) {X : Type 0} → (p < j) ⊎ X → (p + 1 ≤ j) ⊎ X
      move j (inl h) = inl (omega arith)
      move j (inr x) = inr x
