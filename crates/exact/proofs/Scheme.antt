-- Worked over fractions, A2.2 gives the basis functions of the span and row 1 of A2.3 their first derivatives. Assumes nothing.
use mathlib.Core.Path.{◌≡◌, refl, sym, ◌∙◌, ap, ap₂}
use mathlib.Core.Bool.{Bool, true, false, cond, not}
use mathlib.Core.List.{[], ◌∷◌}
use Prim.Native.Nat.{ℕ, zero, suc, ◌+◌, ◌-◌, min, max, ◌≤◌, ◌<◌}
use native.Mathlib.Omega.{arith}
use lib.Dec.{T, leb, ltb, ltb→lt, nltb→le, leb→le, le→leb}
use Rattle.exact.specs.Rational.{ℚ, ◌+q◌, ◌-q◌, ◌*q◌, ◌/q◌, negq, inv, q0, q1, ◌≤q◌, ofℕ}
use Rattle.exact.specs.Spline.{rise, fall, slope, basis, dbasis}
use Rattle.exact.specs.Scheme.{Arithmetic, width_of, share_of, carry_of, part_of, next_of, basis_of, table_of, term_of, sum_of, start_of, der_of, row_of, derivative_of, factor_of, ders_of}
use Rattle.exact.proofs.Field.{qring, q-ring, q-combine, q-combine₂, mul-zero}
use Rattle.exact.proofs.DeBoor.{basis-suc, basis-one, basis-low, basis-high}
use Rattle.exact.proofs.Deriv.{formula, dbasis-formula}

abbrev pub fractions : Arithmetic ℚ
fractions = record { add = ◌+q◌; sub = ◌-q◌; mul = ◌*q◌; div = ◌/q◌; neg = negq; nought = q0; one = q1; whole = ofℕ }

-- a product whose second factor is 0, alone and after another term
pub no-first : (x y : ℚ) → y ≡ q0 → q0 ≡ x *q y
no-first x y h = sym (ap (λ z. x *q z) h ∙ mul-zero x)

pub no_last : (x y z : ℚ) → z ≡ q0 → x ≡ x +q y *q z
no_last x y z h = q-combine (negq y) h (q-ring (x ∷ y ∷ z ∷ []) (search qring depth 20) tt)

module _ (U : ℕ → ℚ) (t : ℚ) (s : ℕ) where
  -- left[k] and right[k]
  pub left : ℕ → ℚ
  left k = t -q U (s + 1 - k)

  pub right : ℕ → ℚ
  right k = U (s + k) -q t

  -- ---- A2.2

  -- the width of degree k + 1 under function i, b the first function
  pub width_is : (k b i : ℕ) → b + suc k ≡ s → i ≤ k → width_of fractions left right (suc k) i ≡ U (suc (b + i) + suc k) -q U (suc (b + i))
  unfolding width_of left right
  width_is k b i e h =
      let x : s + (i + 1) ≡ suc (b + i) + suc k = omega arith in
      let y : s + 1 - (suc k - i) ≡ suc (b + i) = omega arith in
      ap₂ (λ m n. U m -q t +q (t -q U n)) x y ∙ q-ring (U (suc (b + i) + suc k) ∷ U (suc (b + i)) ∷ t ∷ []) (search qring depth 20) tt

  -- what function i hands on, and what it keeps, for the column f of degree k
  hands_on : (f : ℕ → ℚ) (k b i : ℕ) → b + suc k ≡ s → i ≤ k → carry_of fractions left right f (suc k) (suc i) ≡ rise U t k (suc (b + i)) *q f i
  unfolding carry_of rise left
  hands_on f k b i e h =
      let y : s + 1 - (suc k - i) ≡ suc (b + i) = omega arith in
      ap₂ (λ n w. (t -q U n) *q (f i /q w)) y (width_is k b i e h)
      ∙ q-ring (t ∷ U (suc (b + i)) ∷ f i ∷ inv (U (suc (b + i) + suc k) -q U (suc (b + i))) ∷ []) (search qring depth 20) tt

  keeps : (f : ℕ → ℚ) (k b i : ℕ) → b + suc k ≡ s → i ≤ k → right (i + 1) *q share_of fractions left right f (suc k) i ≡ fall U t k (suc (b + i)) *q f i
  unfolding share_of fall right
  keeps f k b i e h =
      let x : s + (i + 1) ≡ suc (b + i) + suc k = omega arith in
      ap₂ (λ n w. (U n -q t) *q (f i /q w)) x (width_is k b i e h)
      ∙ q-ring (t ∷ U (suc (b + i) + suc k) ∷ f i ∷ inv (U (suc (b + i) + suc k) -q U (suc (b + i))) ∷ []) (search qring depth 20) tt

  module _ (k b : ℕ) (e : b + suc k ≡ s) (f : ℕ → ℚ) (column : (i : ℕ) → i ≤ k → f i ≡ basis U t s k (suc b + i)) where
    carried : (i : ℕ) → i ≤ suc k → carry_of fractions left right f (suc k) i ≡ rise U t k (b + i) *q basis U t s k (b + i)
    unfolding carry_of
    carried zero h = no-first _ _ (basis-low U t s k (b + 0) (omega arith))
    carried (suc i) h =
        let x : suc (b + i) ≡ b + suc i = omega arith in
        let y : suc b + i ≡ b + suc i = omega arith in
        hands_on f k b i e (omega arith) ∙ ap₂ ◌*q◌ (ap (rise U t k) x) (column i (omega arith) ∙ ap (basis U t s k) y)

    parted : (i : ℕ) → i ≤ k → part_of fractions left right f (suc k) i ≡ basis U t s (suc k) (b + i)
    unfolding part_of
    parted i h =
        let y : suc b + i ≡ suc (b + i) = omega arith in
        ap₂ ◌+q◌ (carried i (omega arith)) (keeps f k b i e h ∙ ap (λ z. fall U t k (suc (b + i)) *q z) (column i h ∙ ap (basis U t s k) y)) ∙ sym (basis-suc U t s k (b + i))

    cornered : carry_of fractions left right f (suc k) (suc k) ≡ basis U t s (suc k) (b + suc k)
    cornered = carried (suc k) (omega arith) ∙ no_last _ (fall U t k (suc (b + suc k))) _ (basis-high U t s k (suc (b + suc k)) (omega arith)) ∙ sym (basis-suc U t s k (b + suc k))

    next-is : (i : ℕ) → i ≤ suc k → next_of fractions left right f (suc k) i ≡ basis U t s (suc k) (b + i)
    unfolding next_of
    next-is i h = go (ltb i (suc k)) (ltb→lt i (suc k)) (nltb→le i (suc k))
      where
        go : (c : Bool) → (T c → i < suc k) → (T (not c) → suc k ≤ i)
            → cond c (part_of fractions left right f (suc k) i) (carry_of fractions left right f (suc k) i) ≡ basis U t s (suc k) (b + i)
        go true p q = let x : i < suc k = p tt in parted i (omega arith)
        go false p q =
            let x : suc k ≤ i = q tt in
            let y : i ≡ suc k = omega arith in
            ap (carry_of fractions left right f (suc k)) y ∙ cornered ∙ ap (λ n. basis U t s (suc k) (b + n)) (sym y)

  -- function i of degree j on the span is the basis function i places after the first active one
  pub scheme-basis : (j b i : ℕ) → b + j ≡ s → i ≤ j → basis_of fractions left right j i ≡ basis U t s j (b + i)
  unfolding basis_of
  scheme-basis zero b i e h = sym (basis-one U t s (b + i) (omega arith))
  scheme-basis (suc k) b i e h = next-is k b e (basis_of fractions left right k) (λ m l. scheme-basis k (suc b) m (omega arith) l) i h

  -- ---- A2.3, row 1

  pick_yes : (c : Bool) (x y : ℚ) → T c → cond c x y ≡ x
  pick_yes true x y h = refl
  pick_yes false x y h = absurd h

  pick_no : (c : Bool) (x y : ℚ) → (T c → ⊥) → cond c x y ≡ y
  pick_no true x y h = absurd (h tt)
  pick_no false x y h = refl

  unfoldable pub table : ℕ → ℕ → ℚ
  table = table_of fractions left right

  pub table-width : (k b i : ℕ) → b + suc k ≡ s → i ≤ k → table (suc k) i ≡ U (suc (b + i) + suc k) -q U (suc (b + i))
  unfolding table table_of
  table-width k b i e h = pick_no (leb (suc k) i) _ _ (λ x. let y : suc k ≤ i = leb→le (suc k) i x in omega arith) ∙ width_is k b i e h

  table-basis : (k b i : ℕ) → b + suc k ≡ s → i ≤ k → table i k ≡ basis U t s k (suc (b + i))
  unfolding table table_of
  table-basis k b i e h =
      let y : suc b + i ≡ suc (b + i) = omega arith in
      pick_yes (leb i k) _ _ (le→leb i k h) ∙ scheme-basis k (suc b) i (omega arith) h ∙ ap (basis U t s k) y

  module _ (k b : ℕ) (e : b + suc k ≡ s) where
    ones : ℕ → ℚ
    ones j = q1

    -- a term with numerator x over the width under function i, times the function
    pub term_is : (x y w N : ℚ) (i : ℕ) → i ≤ k → y ≡ x → w ≡ table (suc k) i → N ≡ table i k → y /q w *q N ≡ x *q (slope U k (suc (b + i)) *q basis U t s k (suc (b + i)))
    unfolding slope
    term_is x y w N i h p q r =
        ap₂ (λ u v. y /q u *q v) (q ∙ table-width k b i e h) (r ∙ table-basis k b i e h) ∙ ap (λ z. z /q (U (suc (b + i) + suc k) -q U (suc (b + i))) *q basis U t s k (suc (b + i))) p
        ∙ q-ring (x ∷ inv (U (suc (b + i) + suc k) -q U (suc (b + i))) ∷ basis U t s k (suc (b + i)) ∷ []) (search qring depth 20) tt

    first-term : (i : ℕ) → i ≤ k → term_of fractions table (suc k) (suc i) ones 1 0 ≡ slope U k (suc (b + i)) *q basis U t s k (suc (b + i))
    unfolding term_of ones
    first-term i h =
        let x : suc i + 0 - 1 ≡ i = omega arith in
        let y : suc k - 1 + 1 ≡ suc k = omega arith in
        let z : suc k - 1 ≡ k = omega arith in
        term_is q1 q1 _ _ i h refl (ap₂ table y x) (ap₂ table x z) ∙ q-ring (slope U k (suc (b + i)) ∷ basis U t s k (suc (b + i)) ∷ []) (search qring depth 20) tt

    second-term : (i : ℕ) → i ≤ k → term_of fractions table (suc k) i ones 1 1 ≡ negq (slope U k (suc (b + i)) *q basis U t s k (suc (b + i)))
    unfolding term_of ones
    second-term i h =
        let x : i + 1 - 1 ≡ i = omega arith in
        let y : suc k - 1 + 1 ≡ suc k = omega arith in
        let z : suc k - 1 ≡ k = omega arith in
        term_is (negq q1) (negq q1) _ _ i h refl (ap₂ table y x) (ap₂ table x z) ∙ q-ring (slope U k (suc (b + i)) ∷ basis U t s k (suc (b + i)) ∷ []) (search qring depth 20) tt

    -- the sum's start: the first term, or 0 where function i - 1 of the degree below is no active one
    start_is : (i : ℕ) → i ≤ suc k → start_of fractions table (suc k) i ones 1 ≡ slope U k (b + i) *q basis U t s k (b + i)
    unfolding start_of
    start_is zero h = no-first _ _ (basis-low U t s k (b + 0) (omega arith))
    start_is (suc i) h =
        let x : suc (b + i) ≡ b + suc i = omega arith in
        pick_yes (leb 1 (suc i)) _ _ (le→leb 1 (suc i) (omega arith)) ∙ first-term i (omega arith) ∙ ap (λ n. slope U k n *q basis U t s k n) x

    der-is : (i : ℕ) → i ≤ suc k → der_of fractions table (suc k) i ones 1 ≡ slope U k (b + i) *q basis U t s k (b + i) -q slope U k (suc (b + i)) *q basis U t s k (suc (b + i))
    unfolding der_of
    der-is i h =
        let x : max 1 (1 - i) ≡ 1 = omega arith in
        let y : min 1 (suc k - i) + 1 - 1 ≡ min 1 (suc k - i) = omega arith in
        ap (λ n. sum_of fractions table (suc k) i ones 1 (start_of fractions table (suc k) i ones 1) n (min 1 (suc k - i) + 1 - n)) x
        ∙ ap (sum_of fractions table (suc k) i ones 1 (start_of fractions table (suc k) i ones 1) 1) y
        ∙ go (ltb i (suc k)) (ltb→lt i (suc k)) (nltb→le i (suc k))
      where
        goal : ℚ
        goal = slope U k (b + i) *q basis U t s k (b + i) -q slope U k (suc (b + i)) *q basis U t s k (suc (b + i))

        minus : (x y z : ℚ) → x ≡ y → x +q negq z ≡ y -q z
        minus x y z h = q-combine q1 h (q-ring (x ∷ y ∷ z ∷ []) (search qring depth 20) tt)

        none : (x y z w : ℚ) → x ≡ y → w ≡ q0 → x ≡ y -q z *q w
        none x y z w h k = q-combine₂ q1 z h k (q-ring (x ∷ y ∷ z ∷ w ∷ []) (search qring depth 20) tt)

        go : (c : Bool) → (T c → i < suc k) → (T (not c) → suc k ≤ i) → sum_of fractions table (suc k) i ones 1 (start_of fractions table (suc k) i ones 1) 1 (min 1 (suc k - i)) ≡ goal
        go true p q =
            let l : i < suc k = p tt in
            let m : min 1 (suc k - i) ≡ 1 = omega arith in
            ap (sum_of fractions table (suc k) i ones 1 (start_of fractions table (suc k) i ones 1) 1) m
            ∙ ap (λ z. start_of fractions table (suc k) i ones 1 +q z) (second-term i (omega arith)) ∙ minus _ _ _ (start_is i h)
        go false p q =
            let l : suc k ≤ i = q tt in
            let m : min 1 (suc k - i) ≡ 0 = omega arith in
            ap (sum_of fractions table (suc k) i ones 1 (start_of fractions table (suc k) i ones 1) 1) m ∙ none _ _ _ _ (start_is i h) (basis-high U t s k (suc (b + i)) (omega arith))

  -- row 1 with its factor is the first derivative, where n knots do not decrease
  with-factor : (k i : ℕ) → ders_of fractions left right (suc k) 1 i ≡ derivative_of fractions table (suc k) i 1 *q ofℕ (suc k)
  unfolding ders_of factor_of table
  with-factor k i = pick_no (ltb (suc k) 1) _ _ (λ x. let y : suc k < 1 = ltb→lt (suc k) 1 x in omega arith)

  from-ones : (k b : ℕ) (e : b + suc k ≡ s) (i : ℕ) → derivative_of fractions table (suc k) i 1 ≡ der_of fractions table (suc k) i (ones k b e) 1
  unfolding derivative_of row_of ones
  from-ones k b e i = refl

  pub scheme-derivative : {n : ℕ} → ((i j : ℕ) → i ≤ j → j < n → U i ≤q U j) → (k b i : ℕ) → b + suc k ≡ s → suc s + suc k < n → i ≤ suc k
      → ders_of fractions left right (suc k) 1 i ≡ dbasis U t s (suc k) (b + i)
  unfolding formula
  scheme-derivative {n} mono k b i e f h =
      with-factor k i
      ∙ ap (λ z. z *q ofℕ (suc k)) (from-ones k b e i ∙ der-is k b e i h)
      ∙ q-ring (slope U k (b + i) ∷ basis U t s k (b + i) ∷ slope U k (suc (b + i)) ∷ basis U t s k (suc (b + i)) ∷ ofℕ (suc k) ∷ []) (search qring depth 20) tt
      ∙ sym (dbasis-formula mono t s k (b + i) (omega arith))
