-- The table of basis functions, column after column.
-- Assumes nothing.
use Prim.Native.Nat.{ℕ, zero, suc, ◌+◌, ◌-◌, ◌≤◌, ◌<◌}
use mathlib.Core.Bool.{Bool, true, cond}
use mathlib.Core.Path.{◌≡◌, refl, sym, ◌∙◌, ap, ap₂, subst}
use mathlib.Core.Logic.{◌⊎◌, inl, inr}
use mathlib.Core.List.{List}
use native.Mathlib.Omega.{arith}
use native.Mathlib.Nat.{eq-or-lt_of_le}
use borrow.Author.Tests.{lt-ltb, le-ltb}
use lib.ListN.{length, set}
use lib.Seq.{get_or-set_same, get_or-set_other}
use lib.Ieee.{Float, nan, binary64, add, mul, div}
use Rattle.doubles.specs.Run.{at}
use Rattle.basis.specs.Basis.{cell, ColumnDone, TableDone}
use Rattle.basis.proofs.Cells.{put_same}
use Rattle.exact.specs.Scheme.{width_of, share_of, carry_of, part_of, next_of, basis_of}
use Rattle.basis.specs.Floats.{floats}

-- two runs of differences agree from 1 up to j
abbrev pub Agree : ℕ → (ℕ → Float) → (ℕ → Float) → Type 0
Agree j l l' = (k : ℕ) → 0 < k → k ≤ j → l k ≡ l' k

-- a column depends only on what it reads
module _ (j : ℕ) (l r l' r' : ℕ → Float) (al : Agree j l l') (ar : Agree j r r') where
  pub width-cong : (i : ℕ) → i < j → width_of floats l r j i ≡ width_of floats l' r' j i
  unfolding width_of
  width-cong i b = ap₂ (λ (x y : Float). add binary64 x y) (ar (i + 1) (omega arith) (omega arith)) (al (j - i) (omega arith) (omega arith))

  module _ (f g : ℕ → Float) where
    share-cong : (i : ℕ) → i < j → f i ≡ g i → share_of floats l r f j i ≡ share_of floats l' r' g j i
    unfolding share_of
    share-cong i b e = ap₂ (λ (x y : Float). div binary64 x y) e (width-cong i b)

    pub carry-cong : (i : ℕ) → i ≤ j → ((k : ℕ) → k < i → f k ≡ g k) → carry_of floats l r f j i ≡ carry_of floats l' r' g j i
    unfolding carry_of
    carry-cong zero b e = refl
    carry-cong (suc i) b e = ap₂ (λ (x y : Float). mul binary64 x y) (al (j - i) (omega arith) (omega arith)) (share-cong i (omega arith) (e i (omega arith)))

    pub part-cong : (i : ℕ) → i < j → ((k : ℕ) → k ≤ i → f k ≡ g k) → part_of floats l r f j i ≡ part_of floats l' r' g j i
    unfolding part_of
    part-cong i b e =
        ap₂ (λ (x y : Float). add binary64 x y) (carry-cong i (omega arith) (λ k m. e k (omega arith)))
        (ap₂ (λ (x y : Float). mul binary64 x y) (ar (i + 1) (omega arith) (omega arith)) (share-cong i b (e i (omega arith))))

module _ (l r : ℕ → Float) where
  -- function i of degree j, for a j above 0
  pub basis-part : (j i : ℕ) → 0 < j → i < j → part_of floats l r (basis_of floats l r (j - 1)) j i ≡ basis_of floats l r j i
  basis-part zero i p b = absurd (omega arith)
  basis-part (suc j) i p b =
      let e : suc j - 1 ≡ j = omega arith in
      subst (λ (m : ℕ). part_of floats l r (basis_of floats l r m) (suc j) i ≡ basis_of floats l r (suc j) i) (sym e) (step (ltb-is i b))
    where
      ltb-is : (i : ℕ) → i < suc j → lib.Dec.ltb i (suc j) ≡ true
      ltb-is i b = lt-ltb i (suc j) b

      step : lib.Dec.ltb i (suc j) ≡ true → part_of floats l r (basis_of floats l r j) (suc j) i ≡ basis_of floats l r (suc j) i
      step h = unfold basis_of next_of in sym (ap (λ (t : Bool). cond t (part_of floats l r (basis_of floats l r j) (suc j) i) (carry_of floats l r (basis_of floats l r j) (suc j) i)) h)

  pub basis-corner : (j : ℕ) → 0 < j → carry_of floats l r (basis_of floats l r (j - 1)) j j ≡ basis_of floats l r j j
  basis-corner zero p = absurd (omega arith)
  basis-corner (suc j) p =
      let e : suc j - 1 ≡ j = omega arith in
      subst (λ (m : ℕ). carry_of floats l r (basis_of floats l r m) (suc j) (suc j) ≡ basis_of floats l r (suc j) (suc j)) (sym e) step
    where
      step : carry_of floats l r (basis_of floats l r j) (suc j) (suc j) ≡ basis_of floats l r (suc j) (suc j)
      step =
          unfold
          basis_of next_of in sym
          (ap (λ (t : Bool). cond t (part_of floats l r (basis_of floats l r j) (suc j) (suc j)) (carry_of floats l r (basis_of floats l r j) (suc j) (suc j))) (le-ltb (suc j) (suc j) (omega arith)))

  pub table-start : (t : List Float) → 0 < length t → TableDone 1 l r (set t 0 floats.one)
  unfolding basis_of
  table-start t h = record {
    values = λ j i b m. first j i (omega arith) (omega arith);
    widths = λ j i b m. absurd (omega arith);
  }
    where
      first : (j i : ℕ) → j ≡ 0 → i ≡ 0 → cell (set t 0 floats.one) i j ≡ basis_of floats l r j i
      first zero zero p q = put_same t 0 0 floats.one (omega arith)
      first zero (suc i) p q = absurd (omega arith)
      first (suc j) i p q = absurd (omega arith)

  pub table_more : (j : ℕ) (l' r' : ℕ → Float) (t t' : List Float) → 0 < j → Agree j l' l → Agree j r' r → TableDone j l r t → ColumnDone j l' r' t t' → TableDone (j + 1) l r t'
  table_more j l' r' t t' J al ar D C = record {
    values = λ k i b m. values k i m (split k b);
    widths = λ k i b m. widths k i m (split k b);
  }
    where
      split : (k : ℕ) → k < j + 1 → (k ≡ j) ⊎ (k < j)
      split k b = eq-or-lt_of_le (omega arith)

      before : (k : ℕ) → k < j → cell t k (j - 1) ≡ basis_of floats l r (j - 1) k
      before k b = D.values (j - 1) k (omega arith) (omega arith)

      here : (i : ℕ) → (i ≡ j) ⊎ (i < j) → cell t' i j ≡ basis_of floats l r j i
      here i (inl e) =
          subst (λ (m : ℕ). cell t' m j ≡ basis_of floats l r j m) (sym e)
          (C.corner ∙ (carry-cong j l' r' l r al ar (λ k. cell t k (j - 1)) (basis_of floats l r (j - 1)) j (omega arith) before ∙ basis-corner j J))
      here i (inr b) = C.column i b ∙ (part-cong j l' r' l r al ar (λ k. cell t k (j - 1)) (basis_of floats l r (j - 1)) i b (λ k m. before k (omega arith)) ∙ basis-part j i J b)

      values : (k i : ℕ) → i ≤ k → (k ≡ j) ⊎ (k < j) → cell t' i k ≡ basis_of floats l r k i
      values k i m (inl e) = subst (λ (q : ℕ). cell t' i q ≡ basis_of floats l r q i) (sym e) (here i (eq-or-lt_of_le (omega arith)))
      values k i m (inr b) = C.rest i k (omega arith) b ∙ D.values k i b m

      widths : (k i : ℕ) → i < k → (k ≡ j) ⊎ (k < j) → cell t' k i ≡ width_of floats l r k i
      widths k i m (inl e) = subst (λ (q : ℕ). cell t' q i ≡ width_of floats l r q i) (sym e) (C.widths i (omega arith) ∙ width-cong j l' r' l r al ar i (omega arith))
      widths k i m (inr b) = C.rest k i b (omega arith) ∙ D.widths k i b m

-- a store at j extends what agrees below j
pub agree-more : (j : ℕ) (xs : List Float) (x : Float) (l : ℕ → Float) → j < length xs → Agree (j - 1) (λ k. at xs k) l → x ≡ l j → Agree j (λ k. at (set xs j x) k) l
agree-more j xs x l b a e k p m = go (eq-or-lt_of_le m)
  where
    go : (k ≡ j) ⊎ (k < j) → at (set xs j x) k ≡ l k
    go (inl q) = subst (λ (i : ℕ). at (set xs j x) i ≡ l i) (sym q) (get_or-set_same xs j x nan b ∙ e)
    go (inr q) = get_or-set_other xs j k x nan (λ z. omega arith) ∙ a k p (omega arith)
