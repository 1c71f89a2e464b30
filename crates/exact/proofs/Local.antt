-- The sum on a span has only the 2 p knots and the p + 1 controls around it. Assumes nothing.
-- U and W are the knots of two curves, s and s' a span of each, b and b' the first active control there.
use mathlib.Core.Path.{◌≡◌, sym, ◌∙◌, ap, ap₂}
use mathlib.Core.Logic.{⊎_elim}
use Prim.Native.Nat.{ℕ, zero, suc, ◌+◌, ◌≤◌, ◌<◌}
use native.Mathlib.Nat.{add-suc, suc-add}
use native.Mathlib.Omega.{arith}
use Rattle.exact.specs.Rational.{ℚ, ◌+q◌, ◌-q◌, ◌*q◌, ◌/q◌, q0}
use Rattle.exact.specs.Spline.{rise, fall, basis, whole, exact}
use Rattle.exact.proofs.Field.{mul-zero}
use Rattle.exact.proofs.Sum.{Σ-cong}
use Rattle.exact.proofs.DeBoor.{basis-suc, basis-one, basis-low, basis-high, curve}
use Rattle.exact.proofs.Curve.{whole-active}
use Rattle.exact.proofs.Refined.{split}

-- the knots around the spans b + p and b' + p are the same; the first and the last that the active functions have need not be
pub record Near (U W : ℕ → ℚ) (p b b' : ℕ) : Type 0 where
  pub alike : (i : ℕ) → 0 < i → i ≤ p + p → U (b + i) ≡ W (b' + i)

pub both_zero : (x y : ℚ) {N M : ℚ} → N ≡ q0 → M ≡ q0 → x *q N ≡ y *q M
both_zero x y h k = ap (λ z. x *q z) h ∙ mul-zero x ∙ sym (ap (λ z. y *q z) k ∙ mul-zero y)

module _ {U W : ℕ → ℚ} {k b b' : ℕ} (N : Near U W (suc k) b b') where
  pub near-inner : Near U W k (suc b) (suc b')
  near-inner = record { alike = λ i g h. rw (suc-add b i, suc-add b' i, ← add-suc b i, ← add-suc b' i) (N.alike (suc i) (omega arith) (omega arith)) }

  pub left-knot : (i : ℕ) → i ≤ k → U (suc (b + i)) ≡ W (suc (b' + i))
  left-knot i h = ap U (sym (add-suc b i)) ∙ N.alike (suc i) (omega arith) (omega arith) ∙ ap W (add-suc b' i)

  pub right-knot : (i : ℕ) → i ≤ k → U (suc (b + i) + suc k) ≡ W (suc (b' + i) + suc k)
  right-knot i h =
      let x : suc (b + i) + suc k ≡ b + (suc i + suc k) = omega arith in
      let y : b' + (suc i + suc k) ≡ suc (b' + i) + suc k = omega arith in
      ap U x ∙ N.alike (suc i + suc k) (omega arith) (omega arith) ∙ ap W y

  pub rise-local : (t : ℚ) (i : ℕ) → i ≤ k → rise U t k (suc (b + i)) ≡ rise W t k (suc (b' + i))
  unfolding rise
  rise-local t i h = ap₂ (λ x y. (t -q x) /q (y -q x)) (left-knot i h) (right-knot i h)

  pub fall-local : (t : ℚ) (i : ℕ) → i ≤ k → fall U t k (suc (b + i)) ≡ fall W t k (suc (b' + i))
  unfolding fall
  fall-local t i h = ap₂ (λ x y. (y -q t) /q (y -q x)) (left-knot i h) (right-knot i h)

  -- one degree more, from the functions of the degree below
  module _ (t : ℚ) {s s' : ℕ} (e : b + suc k ≡ s) (e' : b' + suc k ≡ s') (below : (i : ℕ) → i ≤ k → basis U t s k (suc b + i) ≡ basis W t s' k (suc b' + i)) where
    inner : (i : ℕ) → i ≤ k → basis U t s k (suc (b + i)) ≡ basis W t s' k (suc (b' + i))
    inner i h = ap (basis U t s k) (sym (suc-add b i)) ∙ below i h ∙ ap (basis W t s' k) (suc-add b' i)

    rising : (i : ℕ) → i ≤ suc k → rise U t k (b + i) *q basis U t s k (b + i) ≡ rise W t k (b' + i) *q basis W t s' k (b' + i)
    rising zero h = both_zero _ _ (basis-low U t s k (b + 0) (omega arith)) (basis-low W t s' k (b' + 0) (omega arith))
    rising (suc i) h = rw (add-suc b i, add-suc b' i) (ap₂ ◌*q◌ (rise-local t i (omega arith)) (inner i (omega arith)))

    falling : (i : ℕ) → i ≤ suc k → fall U t k (suc (b + i)) *q basis U t s k (suc (b + i)) ≡ fall W t k (suc (b' + i)) *q basis W t s' k (suc (b' + i))
    falling i l = ⊎_elim
        (λ (h : i ≤ k). ap₂ ◌*q◌ (fall-local t i h) (inner i h))
        (λ (h : k < i). both_zero _ _ (basis-high U t s k (suc (b + i)) (omega arith)) (basis-high W t s' k (suc (b' + i)) (omega arith))) (split i k)

    next-local : (i : ℕ) → i ≤ suc k → basis U t s (suc k) (b + i) ≡ basis W t s' (suc k) (b' + i)
    next-local i l = basis-suc U t s k (b + i) ∙ ap₂ ◌+q◌ (rising i l) (falling i l) ∙ sym (basis-suc W t s' k (b' + i))

pub basis-local : (k : ℕ) {U W : ℕ → ℚ} {b b' s s' : ℕ} → Near U W k b b' → b + k ≡ s → b' + k ≡ s' → (t : ℚ) (i : ℕ) → i ≤ k
    → basis U t s k (b + i) ≡ basis W t s' k (b' + i)
basis-local zero {U} {W} {b} {b'} {s} {s'} N e e' t i l = basis-one U t s (b + i) (omega arith) ∙ sym (basis-one W t s' (b' + i) (omega arith))
basis-local (suc k) N e e' t i l = next-local N t e e' (λ j h. basis-local k (near-inner N) (omega arith) (omega arith) t j h) i l

module _ {U W : ℕ → ℚ} {p b b' : ℕ} (N : Near U W p b b') {s s' count count' : ℕ} (e : b + p ≡ s) (e' : b' + p ≡ s') (l : s < count) (l' : s' < count') (t : ℚ) where
  pub whole-local : (c d : ℕ → ℚ) → ((i : ℕ) → i ≤ p → c (b + i) ≡ d (b' + i)) → whole U t s p count c ≡ whole W t s' p count' d
  unfolding curve
  whole-local c d h = whole-active U t s p b count c e l
      ∙ Σ-cong (suc p) (λ m g. ap₂ ◌*q◌ (basis-local p N e e' t m (omega arith)) (h m (omega arith)))
      ∙ sym (whole-active W t s' p b' count' d e' l')

  pub exact-local : (w P v Q : ℕ → ℚ) → ((i : ℕ) → i ≤ p → w (b + i) ≡ v (b' + i)) → ((i : ℕ) → i ≤ p → P (b + i) ≡ Q (b' + i))
      → exact U t s p count w P ≡ exact W t s' p count' v Q
  unfolding exact
  exact-local w P v Q h g = ap₂ ◌/q◌ (whole-local (λ i. w i *q P i) (λ i. v i *q Q i) (λ i m. ap₂ ◌*q◌ (h i m) (g i m))) (whole-local w v h)
