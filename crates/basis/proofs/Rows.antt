-- A row of the coefficients of the derivatives, place by place.
-- Assumes nothing.
use Prim.Native.Nat.{ℕ, zero, suc, ◌+◌, ◌-◌, ◌≤◌, ◌<◌, min, max}
use mathlib.Core.Path.{◌≡◌, refl, sym, ◌∙◌, ap, ap₂, subst}
use mathlib.Core.Logic.{◌⊎◌, inl, inr}
use mathlib.Core.List.{List}
use native.Mathlib.Omega.{arith}
use native.Mathlib.Nat.{eq-or-lt_of_le}
use native.Mathlib.Numerals.{add-one}
use borrow.Author.Tests.{eq-eqb, ne_eqb, le-leb, lt-leb}
use lib.ListN.{length, set, length-set}
use lib.Seq.{get_or-set_same, get_or-set_other}
use lib.Ieee.{Float, nan, binary64, add, sub, mul, div, neg}
use Rattle.doubles.specs.Run.{at}
use Rattle.basis.specs.Ders.{first_of, end_of, RowDone, MiddleDone}
use Rattle.exact.specs.Scheme.{num_of, coef_of, term_of, sum_of, start_of, der_of}
use Rattle.basis.specs.Floats.{floats}
use Rattle.runs.proofs.Cases.{eq-zero}

-- the places between the ends of a row: from J up to E, in sums alone
pub record Places (p r k J E : ℕ) : Type 0 where
  pub low : 0 < J
  pub reach : k ≤ r + J
  pub mid : E ≤ k
  pub right : E + r ≤ p + 1
  pub order : J ≤ E

pub places : (p r k J E : ℕ) → 0 < k → k ≤ p → r ≤ p → J ≡ first_of r k → E ≡ end_of p r k → Places p r k J E
unfolding first_of end_of
places p r k J E a b d Je Ee = record {
  low = rw Je (omega arith);
  reach = rw Je (omega arith);
  mid = rw Ee (omega arith);
  right = rw Ee (omega arith);
  order = rw (Je, Ee) (omega arith);
}

module _ (c : ℕ → ℕ → Float) (p r k : ℕ) (f : ℕ → Float) where
  pub middle-coef : (j i : ℕ) → 0 < j → j < k → i ≡ r + j - k → div binary64 (sub binary64 (f j) (f (j - 1))) (c (p - k + 1) i) ≡ coef_of floats c p r f k j
  unfolding coef_of num_of
  middle-coef j i a b e = simp (ne_eqb j 0 (λ q. omega arith), ne_eqb j k (λ q. omega arith), e)

  pub start-coef : (i : ℕ) → i ≡ r + 0 - k → div binary64 (f 0) (c (p - k + 1) i) ≡ coef_of floats c p r f k 0
  unfolding coef_of num_of
  start-coef i e = ap (λ (m : ℕ). div binary64 (f 0) (c (p - k + 1) m)) e

  pub last-coef : 0 < k → div binary64 (neg (f (k - 1))) (c (p - k + 1) r) ≡ coef_of floats c p r f k k
  unfolding coef_of num_of
  last-coef h =
      let e : r ≡ r + k - k = omega arith in
      simp (ne_eqb k 0 (λ q. omega arith), eq-eqb k k refl) (ap (λ (m : ℕ). div binary64 (neg (f (k - 1))) (c (p - k + 1) m)) e)

  pub term_is : (x : Float) (j i : ℕ) → i ≡ r + j - k → x ≡ coef_of floats c p r f k j → mul binary64 x (c i (p - k)) ≡ term_of floats c p r f k j
  unfolding term_of
  term_is x j i e h = ap₂ (λ (y : Float) (m : ℕ). mul binary64 y (c m (p - k))) h e

  pub sum_more : (s d t : Float) (J n j : ℕ) → d ≡ sum_of floats c p r f k s J n → t ≡ term_of floats c p r f k j → J + n ≡ j → add binary64 d t ≡ sum_of floats c p r f k s J (n + 1)
  unfolding sum_of
  sum_more s d t J n j a b e = rw add-one (ap₂ (λ (x y : Float). add binary64 x y) a (b ∙ ap (λ (m : ℕ). term_of floats c p r f k m) (sym e)))

  -- d is the sum and `row` the run, as the places from J up to j are done
  pub record InMiddle (J E : ℕ) (before : List Float) (s : Float) (row : List Float) (d : Float) (j : ℕ) : Type 0 where
    pub long : length row ≡ 3
    pub from : J ≤ j
    pub upto : j ≤ E
    pub kept : at row 0 ≡ at before 0
    pub coefs : (i : ℕ) → J ≤ i → i < j → at row i ≡ coef_of floats c p r f k i
    pub sum : d ≡ sum_of floats c p r f k s J (j - J)

  module _ (K2 : k ≤ 2) (J E : ℕ) (H : Places p r k J E) (before : List Float) (s : Float) where
    pub middle-start : length before ≡ 3 → InMiddle J E before s before s J
    unfolding sum_of
    middle-start L = record {
      long = L;
      from = omega arith;
      upto = H.order;
      kept = refl;
      coefs = λ i a b. absurd (omega arith);
      sum = none (J - J) (omega arith);
    }
      where
        none : (n : ℕ) → n ≡ 0 → s ≡ sum_of floats c p r f k s J n
        none zero e = refl
        none (suc n) e = absurd (omega arith)

    module _ (row : List Float) (d : Float) (j i : ℕ) (x : Float) (I : InMiddle J E before s row d j) (b : j < E) (e : i + k ≡ r + j) where
      at_place : (m : ℕ) → J ≤ m → x ≡ coef_of floats c p r f k j → (m ≡ j) ⊎ (m < j) → at (set row j x) m ≡ coef_of floats c p r f k m
      at_place m a h (inl q) = subst (λ (n : ℕ). at (set row j x) n ≡ coef_of floats c p r f k n) (sym q) (get_or-set_same row j x nan (fits H.mid H.right I.long) ∙ h)
        where
          fits : E ≤ k → E + r ≤ p + 1 → length row ≡ 3 → j < length row
          fits u w l = omega arith
      at_place m a h (inr l) = get_or-set_other row j m x nan (λ q. omega arith) ∙ I.coefs m a l

      index : i ≡ r + j - k
      index = omega arith

      pub middle-step : x ≡ div binary64 (sub binary64 (f j) (f (j - 1))) (c (p - k + 1) i)
          → InMiddle J E before s (set row j x) (add binary64 d (mul binary64 x (c i (p - k)))) (j + 1)
      middle-step xe =
          let F = I.from in
          let Z = H.low in
          let M = H.mid in
          let coef : x ≡ coef_of floats c p r f k j = xe ∙ middle-coef j i (omega arith) (omega arith) index in
          let next : j - J + 1 ≡ j + 1 - J = omega arith in
          record {
            long = length-set row j x ∙ I.long;
            from = omega arith;
            upto = omega arith;
            kept = get_or-set_other row j 0 x nan (λ q. omega arith) ∙ I.kept;
            coefs = λ m a l. at_place m a coef (eq-or-lt_of_le (omega arith));
            sum = sum_more s d _ J (j - J) j I.sum (term_is x j i index coef) (omega arith) ∙ ap (λ (n : ℕ). sum_of floats c p r f k s J n) next;
          }

    pub middle-end : J ≡ first_of r k → E ≡ end_of p r k → (row : List Float) (d : Float) (j : ℕ) → InMiddle J E before s row d j → E ≤ j → MiddleDone c p r k f before row s d
    unfolding first_of end_of
    middle-end Je Ee row d j I b = record {
      long = I.long;
      kept = I.kept;
      coefs = λ i a h l m. I.coefs i (first i a h) (last i l m);
      sum = I.sum ∙ ap₂ (λ (u v : ℕ). sum_of floats c p r f k s u (v - u)) Je (end ∙ Ee);
    }
      where
        end : j ≡ E
        end = let U = I.upto in omega arith

        first : (i : ℕ) → 0 < i → k ≤ r + i → J ≤ i
        first i a h = rw Je (omega arith)

        last : (i : ℕ) → i < k → i ≤ p - r → i < j
        last i l m = rw (end, Ee) (omega arith)

  module _ (K : 0 < k) (kp : k ≤ p) (K2 : k ≤ 2) (R : r ≤ p) (before : List Float) (s : Float) where
    -- the places of a row, all three parts together
    pub row-short : (row : List Float) (d : Float) → (k ≤ r → at before 0 ≡ coef_of floats c p r f k 0) → s ≡ start_of floats c p r f k → MiddleDone c p r k f before row s d → p - k < r
        → RowDone c p r k f row d
    unfolding der_of
    row-short row d a st M h =
        let n : min (k - 1) (p - r) ≡ min k (p - r) = omega arith in
        record {
          long = M.long;
          coefs = λ j x y z. part j x z (eq-zero j);
          sum = M.sum ∙ ap₂ (λ (y : Float) (m : ℕ). sum_of floats c p r f k y (max 1 (k - r)) (m + 1 - max 1 (k - r))) st n;
        }
      where
        part : (j : ℕ) → k ≤ r + j → j ≤ p - r → (j ≡ 0) ⊎ (0 < j) → at row j ≡ coef_of floats c p r f k j
        part j x z (inl e) = subst (λ (m : ℕ). at row m ≡ coef_of floats c p r f k m) (sym e) (M.kept ∙ a (omega arith))
        part j x z (inr l) = M.coefs j l x (omega arith) z

    pub row-whole : (row : List Float) (d x : Float) → (k ≤ r → at before 0 ≡ coef_of floats c p r f k 0) → s ≡ start_of floats c p r f k → MiddleDone c p r k f before row s d → r ≤ p - k
        → x ≡ div binary64 (neg (f (k - 1))) (c (p - k + 1) r)
        → RowDone c p r k f (set row k x) (add binary64 d (mul binary64 x (c r (p - k))))
    unfolding der_of
    row-whole row d x a st M h xe =
        let L = M.long in
        let coef : x ≡ coef_of floats c p r f k k = xe ∙ last-coef K in
        let J = max 1 (k - r) in
        record {
          long = length-set row k x ∙ M.long;
          coefs = λ j u y z. part j u z coef (eq-or-lt_of_le y);
          sum = sum_more s d _ J (min (k - 1) (p - r) + 1 - J) k M.sum (term_is x k r index coef) reach
              ∙ ap₂ (λ (y : Float) (m : ℕ). sum_of floats c p r f k y J m) st count;
        }
      where
        inner : min (k - 1) (p - r) ≡ k - 1
        inner = omega arith

        whole : min k (p - r) ≡ k
        whole = omega arith

        first : max 1 (k - r) ≤ k
        first = omega arith

        index : r ≡ r + k - k
        index = omega arith

        reach : max 1 (k - r) + (min (k - 1) (p - r) + 1 - max 1 (k - r)) ≡ k
        reach = rw inner (sums (max 1 (k - r)) first)
          where
            sums : (J : ℕ) → J ≤ k → J + (k - 1 + 1 - J) ≡ k
            sums J l = omega arith

        count : min (k - 1) (p - r) + 1 - max 1 (k - r) + 1 ≡ min k (p - r) + 1 - max 1 (k - r)
        count = rw (inner, whole) (sums (max 1 (k - r)) first)
          where
            sums : (J : ℕ) → J ≤ k → k - 1 + 1 - J + 1 ≡ k + 1 - J
            sums J l = omega arith

        low : (j : ℕ) → k ≤ r + j → j < k → j ≤ p - r → (j ≡ 0) ⊎ (0 < j) → at row j ≡ coef_of floats c p r f k j
        low j u y z (inl e) = subst (λ (m : ℕ). at row m ≡ coef_of floats c p r f k m) (sym e) (M.kept ∙ a (omega arith))
        low j u y z (inr l) = M.coefs j l u y z

        fits : length row ≡ 3 → k < length row
        fits l = omega arith

        part : (j : ℕ) → k ≤ r + j → j ≤ p - r → x ≡ coef_of floats c p r f k k → (j ≡ k) ⊎ (j < k) → at (set row k x) j ≡ coef_of floats c p r f k j
        part j u z h (inl e) = subst (λ (m : ℕ). at (set row k x) m ≡ coef_of floats c p r f k m) (sym e) (get_or-set_same row k x nan (fits M.long) ∙ h)
        part j u z h (inr l) = get_or-set_other row k j x nan (λ q. omega arith) ∙ low j u l z (eq-zero j)

  pub start_none : r < k → floats.nought ≡ start_of floats c p r f k
  unfolding start_of
  start_none h = simp (lt-leb k r h)

  pub start-some : k ≤ r → (x : Float) (i : ℕ) → i ≡ r + 0 - k → x ≡ coef_of floats c p r f k 0 → mul binary64 x (c i (p - k)) ≡ start_of floats c p r f k
  unfolding start_of
  start-some h x i e q = simp (le-leb k r h) (term_is x 0 i e q)
