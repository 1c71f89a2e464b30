-- The exact point of a rational curve is what the source's bound works out, and its weight lies between the active weights. Assumes nothing.
-- U, w, P are the knots, the weights and one coordinate of the points, by index; count the number of points; p the degree; s the span.
use mathlib.Core.Path.{◌≡◌, sym, ◌∙◌, ap, ap₂, subst}
use mathlib.Core.Logic.{◌≢◌}
use mathlib.Core.List.{[], ◌∷◌}
use Prim.Native.Nat.{ℕ, suc, ◌+◌, ◌-◌, ◌≤◌, ◌<◌}
use native.Mathlib.Omega.{arith}
use Rattle.exact.specs.Rational.{ℚ, ◌+q◌, ◌-q◌, ◌*q◌, ◌/q◌, q0, q1, ◌≤q◌, ◌<q◌}
use Rattle.exact.specs.Spline.{Σq, basis, Knots, exact, whole}
use Rattle.exact.proofs.Field.{qring, q-ring, q-combine₂, zero-mul, <-≤-trans, pos-ne, div-le-div, div-eq, one-mul}
use Rattle.exact.proofs.Sum.{Σ-zero, Σ-split}
use Rattle.exact.proofs.DeBoor.{basis-low, basis-high, curve, point-is, point-relative, deboor-is, deboor-low, deboor-high}
use Rattle.exact.proofs.Source.{work}
use Rattle.exact.proofs.SourceCurve.{work-is, work-curve}

middle : (x y z m : ℚ) → x ≡ q0 → z ≡ q0 → x +q y +q z ≡ y
middle x y z m h k = q-combine₂ q1 q1 h k (q-ring (x ∷ y ∷ z ∷ []) (search qring depth 20) tt)

-- only the p + 1 functions from s - p are not 0
pub whole_is : (U : ℕ → ℚ) (t : ℚ) (s p b r : ℕ) (c : ℕ → ℚ) → b + p ≡ s → whole U t s p (b + suc p + r) c ≡ curve U t s p b (λ m. c (b + m))
unfolding whole curve
whole_is U t s p b r c e =
    Σ-split (b + suc p) r (λ i. basis U t s p i *q c i)
    ∙ ap (λ x. x +q Σq r (λ m. basis U t s p (b + suc p + m) *q c (b + suc p + m))) (Σ-split b (suc p) (λ i. basis U t s p i *q c i))
    ∙ middle _ _ _ q0
    (Σ-zero b (λ m l. rw (basis-low U t s p m (omega arith)) (zero-mul (c m))))
    (Σ-zero r (λ m l. rw (basis-high U t s p (b + suc p + m) (omega arith)) (zero-mul (c (b + suc p + m)))))

pub whole-active : (U : ℕ → ℚ) (t : ℚ) (s p b count : ℕ) (c : ℕ → ℚ) → b + p ≡ s → s < count → whole U t s p count c ≡ curve U t s p b (λ m. c (b + m))
whole-active U t s p b count c e l =
    let x : count ≡ b + suc p + (count - (b + suc p)) = omega arith in
    ap (λ n. whole U t s p n c) x ∙ whole_is U t s p b (count - (b + suc p)) c e

module _ {U : ℕ → ℚ} {n s : ℕ} (K : Knots U n s) (p b count : ℕ) (span : b + p ≡ s) (fits : s < count) (knots : s + p < n) where
  pub whole-curve : (t : ℚ) (c : ℕ → ℚ) → whole U t s p count c ≡ curve U t s p b (λ m. c (b + m))
  whole-curve t c = whole-active U t s p b count c span fits

  -- The weight of the source, over scale, lies between the bounds of the active weights over scale
  module _ {t : ℚ} (above : U s ≤q t) (below : t ≤q U (suc s)) (w : ℕ → ℚ) where
    pub weight-low : (a : ℚ) → ((m : ℕ) → m ≤ p → a ≤q w (b + m)) → a ≤q whole U t s p count w
    weight-low a h = subst (λ x. a ≤q x) (deboor-is K t p b (λ m. w (b + m)) span knots ∙ sym (whole-curve t w))
        (deboor-low K above below a p b (λ m. w (b + m)) span knots h)

    pub weight-high : (a : ℚ) → ((m : ℕ) → m ≤ p → w (b + m) ≤q a) → whole U t s p count w ≤q a
    weight-high a h = subst (λ x. x ≤q a) (deboor-is K t p b (λ m. w (b + m)) span knots ∙ sym (whole-curve t w))
        (deboor-high K above below a p b (λ m. w (b + m)) span knots h)

  -- the exact point is what the source works out: two de Boor nets, a quotient, and the reference put back
  pub exact-work : (t : ℚ) (w P : ℕ → ℚ) (r σ : ℚ) → σ ≢ q0 → whole U t s p count w ≢ q0
      → exact U t s p count w P ≡ work U t p s (λ m. (P (b + m) -q r) *q (w (b + m) /q σ)) p p /q work U t p s (λ m. w (b + m) /q σ) p p +q r
  unfolding exact
  exact-work t w P r σ h k =
      ap₂ ◌/q◌ (whole-curve t (λ i. w i *q P i)) (whole-curve t w)
      ∙ sym (point-is U t s p b (λ m. w (b + m)) (λ m. P (b + m)))
      ∙ sym (point-relative U t s p b (λ m. w (b + m)) (λ m. P (b + m)) r σ h (λ e. k (whole-curve t w ∙ e)))
      ∙ sym (ap₂ (λ x y. x /q y +q r) (work-curve K t p b (λ m. (P (b + m) -q r) *q (w (b + m) /q σ)) span knots) (work-curve K t p b (λ m. w (b + m) /q σ) span knots))

  -- and the divisor lies in [a / σ, c / σ]
  pub divisor-low : {t : ℚ} → U s ≤q t → t ≤q U (suc s) → (w : ℕ → ℚ) (a σ : ℚ) → q0 <q σ → ((m : ℕ) → m ≤ p → a ≤q w (b + m))
      → a /q σ ≤q work U t p s (λ m. w (b + m) /q σ) p p
  divisor-low {t} above below w a σ h k = rw (work-is U t p s (λ m. w (b + m) /q σ) b span)
      (deboor-low K above below (a /q σ) p b (λ m. w (b + m) /q σ) span knots (λ m l. div-le-div (k m l) h))

  pub divisor-high : {t : ℚ} → U s ≤q t → t ≤q U (suc s) → (w : ℕ → ℚ) (a σ : ℚ) → q0 <q σ → ((m : ℕ) → m ≤ p → w (b + m) ≤q a)
      → work U t p s (λ m. w (b + m) /q σ) p p ≤q a /q σ
  divisor-high {t} above below w a σ h k = rw (work-is U t p s (λ m. w (b + m) /q σ) b span)
      (deboor-high K above below (a /q σ) p b (λ m. w (b + m) /q σ) span knots (λ m l. div-le-div (k m l) h))

  -- with the largest weight as the scale the divisor is at most 1
  pub divisor-le-1 : {t : ℚ} → U s ≤q t → t ≤q U (suc s) → (w : ℕ → ℚ) (σ : ℚ) → q0 <q σ → ((m : ℕ) → m ≤ p → w (b + m) ≤q σ)
      → work U t p s (λ m. w (b + m) /q σ) p p ≤q q1
  divisor-le-1 {t} above below w σ h k =
      subst (λ x. work U t p s (λ m. w (b + m) /q σ) p p ≤q x) (div-eq {z = q1} (pos-ne h) (one-mul σ)) (divisor-high above below w σ σ h k)

  -- the sum of the weights is positive
  pub weight-pos : {t : ℚ} → U s ≤q t → t ≤q U (suc s) → (w : ℕ → ℚ) (a : ℚ) → q0 <q a → ((m : ℕ) → m ≤ p → a ≤q w (b + m)) → q0 <q whole U t s p count w
  weight-pos above below w a h k = <-≤-trans h (weight-low above below w a k)
