-- Worked over fractions, row 2 of A2.3 gives the second derivatives of the basis functions. Assumes nothing.
use mathlib.Core.Path.{◌≡◌, sym, ◌∙◌, ap, ap₂}
use mathlib.Core.Logic.{⊎_elim}
use mathlib.Core.List.{[], ◌∷◌}
use Prim.Native.Nat.{ℕ, zero, suc, ◌+◌, ◌-◌, min, max, ◌≤◌, ◌<◌}
use native.Mathlib.Omega.{arith}
use lib.Dec.{leb, ltb, ltb→lt, le→leb}
use Rattle.exact.specs.Rational.{ℚ, ◌+q◌, ◌-q◌, ◌*q◌, ◌/q◌, negq, inv, q0, q1, ◌≤q◌, ofℕ}
use Rattle.exact.specs.Spline.{slope, basis, dbasis}
use Rattle.exact.specs.Second.{ddbasis}
use Rattle.exact.specs.Scheme.{num_of, term_of, sum_of, start_of, der_of, row_of, factor_of, ders_of}
use Rattle.exact.proofs.Field.{qring, q-ring}
use Rattle.exact.proofs.DeBoor.{basis-low, basis-high}
use Rattle.exact.proofs.Source.{cond_yes, cond_no}
use Rattle.exact.proofs.Refined.{split}
use Rattle.exact.proofs.Deriv.{formula, dbasis-formula, basis-at, rest}
use Rattle.exact.proofs.Scheme.{fractions, left, right, table, table-width, term_is, no-first, no_last}

module _ (U : ℕ → ℚ) (t : ℚ) (s k b : ℕ) (e : b + suc (suc k) ≡ s) where
  -- row 1 of the coefficients of function i
  row : ℕ → ℕ → ℚ
  row i = row_of fractions (table U t s) (suc (suc k)) i 1

  -- function i of degree k over its width
  share : ℕ → ℚ
  share i = slope U k i *q basis U t s k i

  -- the two coefficients of row 1
  row_first : (i : ℕ) → i ≤ suc k → row (suc i) 0 ≡ slope U (suc k) (b + suc i)
  unfolding row row_of slope
  row_first i h =
      let x : suc i + 0 - 1 ≡ i = omega arith in
      let y : suc (suc k) - 1 + 1 ≡ suc (suc k) = omega arith in
      let z : suc (b + i) ≡ b + suc i = omega arith in
      ap (λ w. q1 /q w) (ap₂ (table U t s) y x ∙ table-width U t s (suc k) b i e h ∙ ap (λ n. U (n + suc (suc k)) -q U n) z)
      ∙ q-ring (inv (U (b + suc i + suc (suc k)) -q U (b + suc i)) ∷ []) (search qring depth 20) tt

  row-second : (i : ℕ) → i ≤ suc k → row i 1 ≡ negq (slope U (suc k) (suc (b + i)))
  unfolding row row_of slope
  row-second i h =
      let x : i + 1 - 1 ≡ i = omega arith in
      let y : suc (suc k) - 1 + 1 ≡ suc (suc k) = omega arith in
      ap (λ w. negq q1 /q w) (ap₂ (table U t s) y x ∙ table-width U t s (suc k) b i e h)
      ∙ q-ring (inv (U (suc (b + i) + suc (suc k)) -q U (suc (b + i))) ∷ []) (search qring depth 20) tt

  -- ---- the three terms

  -- the term at place j, of numerator x, has function i of degree k on the span, which is n of all
  term-at : (r i j n : ℕ) (x : ℚ) → i ≤ k → r + j - 2 ≡ i → suc (suc b + i) ≡ n → num_of fractions (table U t s) (suc (suc k)) r (row r) 2 j ≡ x
      → term_of fractions (table U t s) (suc (suc k)) r (row r) 2 j ≡ x *q share n
  unfolding term_of share
  term-at r i j n x h p q w =
      let y : suc (suc k) - 2 + 1 ≡ suc k = omega arith in
      let z : suc (suc k) - 2 ≡ k = omega arith in
      term_is U t s k (suc b) (omega arith) x _ _ _ i h w (ap₂ (table U t s) y p) (ap₂ (table U t s) p z)
      ∙ ap (λ m. x *q (slope U k m *q basis U t s k m)) q

  first-term : (i : ℕ) → i ≤ k → term_of fractions (table U t s) (suc (suc k)) (suc (suc i)) (row (suc (suc i))) 2 0 ≡ slope U (suc k) (b + suc (suc i)) *q share (b + suc (suc i))
  unfolding num_of
  first-term i h = term-at (suc (suc i)) i 0 (b + suc (suc i)) _ h (omega arith) (omega arith) (row_first (suc i) (omega arith))

  middle-term : (i : ℕ) → i ≤ k → term_of fractions (table U t s) (suc (suc k)) (suc i) (row (suc i)) 2 1
      ≡ negq (slope U (suc k) (b + suc i) +q slope U (suc k) (suc (b + suc i))) *q share (suc (b + suc i))
  unfolding num_of
  middle-term i h = term-at (suc i) i 1 (suc (b + suc i)) _ h (omega arith) (omega arith)
      (rw (row-second (suc i) (omega arith), row_first i (omega arith)) (q-ring (slope U (suc k) (b + suc i) ∷ slope U (suc k) (suc (b + suc i)) ∷ []) (search qring depth 20) tt))

  last-term : (i : ℕ) → i ≤ k → term_of fractions (table U t s) (suc (suc k)) i (row i) 2 2 ≡ slope U (suc k) (suc (b + i)) *q share (suc (suc (b + i)))
  unfolding num_of
  last-term i h = term-at i i 2 (suc (suc (b + i))) _ h (omega arith) (omega arith)
      (ap negq (row-second i (omega arith)) ∙ q-ring (slope U (suc k) (suc (b + i)) ∷ []) (search qring depth 20) tt)

  -- ---- their sum: a term that is left out has a function that is no active one

  -- n terms from place j on
  terms : ℕ → ℕ → ℕ → ℚ
  unfolding sum_of
  terms i j n = sum_of fractions (table U t s) (suc (suc k)) i (row i) 2 (start_of fractions (table U t s) (suc (suc k)) i (row i) 2) j n

  -- all three, for function i
  second : ℕ → ℚ
  second i = slope U (suc k) (b + i) *q share (b + i)
      +q negq (slope U (suc k) (b + i) +q slope U (suc k) (suc (b + i))) *q share (suc (b + i))
      +q slope U (suc k) (suc (b + i)) *q share (suc (suc (b + i)))

  low : (i : ℕ) → i + k < s → share i ≡ q0
  unfolding share
  low i h = sym (no-first _ _ (basis-low U t s k i h))

  high : (i : ℕ) → s < i → share i ≡ q0
  unfolding share
  high i h = sym (no-first _ _ (basis-high U t s k i h))

  start_is : (i : ℕ) → i ≤ suc (suc k) → start_of fractions (table U t s) (suc (suc k)) i (row i) 2 ≡ slope U (suc k) (b + i) *q share (b + i)
  unfolding start_of
  start_is zero h = no-first _ _ (low (b + 0) (omega arith))
  start_is (suc zero) h = no-first _ _ (low (b + 1) (omega arith))
  start_is (suc (suc i)) h = cond_yes _ _ (leb 2 (suc (suc i))) (le→leb 2 (suc (suc i)) (omega arith)) ∙ first-term i (omega arith)

  -- the first function has no middle term
  at_first : terms 0 2 1 ≡ second 0
  unfolding terms second
  at_first = ap₂ ◌+q◌ (start_is 0 (omega arith) ∙ no_last _ _ _ (low (suc (b + 0)) (omega arith))) (last-term 0 (omega arith))

  -- the last has the first term alone, the one before it lacks the last
  at_last : terms (suc (suc k)) 1 0 ≡ second (suc (suc k))
  unfolding terms second
  at_last = start_is (suc (suc k)) (omega arith) ∙ no_last _ _ _ (high (suc (b + suc (suc k))) (omega arith)) ∙ no_last _ _ _ (high (suc (suc (b + suc (suc k)))) (omega arith))

  at-last-but-one : terms (suc k) 1 1 ≡ second (suc k)
  unfolding terms second
  at-last-but-one = ap₂ ◌+q◌ (start_is (suc k) (omega arith)) (middle-term k (omega arith)) ∙ no_last _ _ _ (high (suc (suc (b + suc k))) (omega arith))

  inner : (i : ℕ) → i < k → terms (suc i) 1 2 ≡ second (suc i)
  unfolding terms second
  inner i h = ap₂ ◌+q◌ (ap₂ ◌+q◌ (start_is (suc i) (omega arith)) (middle-term i (omega arith))) (last-term (suc i) (omega arith))

  der-is : (i : ℕ) → i ≤ suc (suc k) → der_of fractions (table U t s) (suc (suc k)) i (row i) 2 ≡ second i
  unfolding der_of terms
  der-is zero h =
      let y : min 2 (suc (suc k) - 0) + 1 - 2 ≡ 1 = omega arith in
      ap (terms 0 2) y ∙ at_first
  der-is (suc i) h =
      let x : max 1 (2 - suc i) ≡ 1 = omega arith in
      ap (λ n. terms (suc i) n (min 2 (suc (suc k) - suc i) + 1 - n)) x ∙ ⊎_elim
      (λ (l : i ≤ k). ⊎_elim
      (λ (m : suc i ≤ k). let y : min 2 (suc (suc k) - suc i) + 1 - 1 ≡ 2 = omega arith in ap (terms (suc i) 1) y ∙ inner i (omega arith))
      (λ (m : k < suc i).
      let y : min 2 (suc (suc k) - suc i) + 1 - 1 ≡ 1 = omega arith in
      let z : i ≡ k = omega arith in
      ap (terms (suc i) 1) y ∙ ap (λ n. terms (suc n) 1 1) z ∙ at-last-but-one ∙ ap (λ n. second (suc n)) (sym z)) (split (suc i) k))
      (λ (l : k < i).
      let y : min 2 (suc (suc k) - suc i) + 1 - 1 ≡ 0 = omega arith in
      let z : i ≡ suc k = omega arith in
      ap (terms (suc i) 1) y ∙ ap (λ n. terms (suc n) 1 0) z ∙ at_last ∙ ap (λ n. second (suc n)) (sym z)) (split i k)

  with-factor : (i : ℕ) → ders_of fractions (left U t s) (right U t s) (suc (suc k)) 2 i
      ≡ der_of fractions (table U t s) (suc (suc k)) i (row i) 2 *q (ofℕ (suc (suc k)) *q ofℕ (suc k))
  unfolding ders_of factor_of table row
  with-factor i =
      let y : suc (suc k) - 1 ≡ suc k = omega arith in
      cond_no _ _ (ltb (suc (suc k)) 2) (λ x. let y : suc (suc k) < 2 = ltb→lt (suc (suc k)) 2 x in omega arith)
      ∙ ap (λ n. der_of fractions (table U t s) (suc (suc k)) i (row i) 2 *q (ofℕ (suc (suc k)) *q ofℕ n)) y

-- ---- the second derivatives by the functions two degrees below, where n knots do not decrease

module _ {U : ℕ → ℚ} {n : ℕ} (mono : (i j : ℕ) → i ≤ j → j < n → U i ≤q U j) (t : ℚ) (s : ℕ) where
  pub ddbasis-formula : (k i : ℕ) → suc i + suc (suc k) < n → ddbasis U t s (suc (suc k)) i
      ≡ ofℕ (suc (suc k)) *q (slope U (suc k) i *q formula U t s k i -q slope U (suc k) (suc i) *q formula U t s k (suc i))
  unfolding ddbasis
  ddbasis-formula k i h = ap₂ (λ x y. ofℕ (suc (suc k)) *q (slope U (suc k) i *q x -q slope U (suc k) (suc i) *q y))
      (dbasis-formula mono t s k i (omega arith)) (dbasis-formula mono t s k (suc i) (omega arith))

  -- they are the derivatives of the first: at t + h the first derivative is N' + h N'' + h h (something)
  pub dbasis-at : (h : ℚ) (k i : ℕ) → suc i + suc k < n → dbasis U (t +q h) s (suc k) i ≡ dbasis U t s (suc k) i +q h *q ddbasis U t s (suc k) i
      +q h *q h *q (ofℕ (suc k) *q (slope U k i *q rest U t h s k i -q slope U k (suc i) *q rest U t h s k (suc i)))
  unfolding ddbasis formula
  dbasis-at h k i l = rw (dbasis-formula mono (t +q h) s k i l, dbasis-formula mono t s k i l, basis-at U t h s k i, basis-at U t h s k (suc i))
      (q-ring (h ∷ ofℕ (suc k) ∷ slope U k i ∷ slope U k (suc i) ∷ basis U t s k i ∷ basis U t s k (suc i) ∷ dbasis U t s k i ∷ dbasis U t s k (suc i)
      ∷ rest U t h s k i ∷ rest U t h s k (suc i) ∷ []) (search qring depth 20) tt)

-- ---- row 2 with its factor

from-two : (U : ℕ → ℚ) (t : ℚ) (s : ℕ) {n : ℕ} → ((i j : ℕ) → i ≤ j → j < n → U i ≤q U j)
    → (k b i : ℕ) → b + suc (suc k) ≡ s → suc s + suc (suc k) < n → i ≤ suc (suc k)
    → ders_of fractions (left U t s) (right U t s) (suc (suc k)) 2 i ≡ ddbasis U t s (suc (suc k)) (b + i)
unfolding formula second share
from-two U t s mono k b i e f h =
    with-factor U t s k b e i
    ∙ ap (λ z. z *q (ofℕ (suc (suc k)) *q ofℕ (suc k))) (der-is U t s k b e i h)
    ∙ q-ring (slope U (suc k) (b + i) ∷ slope U (suc k) (suc (b + i)) ∷ slope U k (b + i) ∷ slope U k (suc (b + i)) ∷ slope U k (suc (suc (b + i)))
    ∷ basis U t s k (b + i) ∷ basis U t s k (suc (b + i)) ∷ basis U t s k (suc (suc (b + i))) ∷ ofℕ (suc (suc k)) ∷ ofℕ (suc k) ∷ []) (search qring depth 20) tt
    ∙ sym (ddbasis-formula mono t s k (b + i) (omega arith))

-- a line's are 0
pub scheme-second : (U : ℕ → ℚ) (t : ℚ) (s : ℕ) {n : ℕ} → ((i j : ℕ) → i ≤ j → j < n → U i ≤q U j) → (k b i : ℕ) → b + suc k ≡ s → suc s + suc k < n → i ≤ suc k
    → ders_of fractions (left U t s) (right U t s) (suc k) 2 i ≡ ddbasis U t s (suc k) (b + i)
unfolding ders_of ddbasis
scheme-second U t s mono zero b i e f h = q-ring (ofℕ 1 ∷ slope U 0 (b + i) ∷ slope U 0 (suc (b + i)) ∷ []) (search qring depth 20) tt
scheme-second U t s mono (suc k) b i e f h = from-two U t s mono k b i e f h
