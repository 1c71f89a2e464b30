-- The source's jets: de Boor's recursion with derivatives, by the source's indices; and the exact first derivative of a rational curve. Assumes nothing.
use mathlib.Core.Path.{◌≡◌, sym, ◌∙◌, ap, ap₂, fun_ext}
use mathlib.Core.Bool.{cond}
use mathlib.Core.Logic.{◌≢◌}
use mathlib.Core.List.{[], ◌∷◌}
use Prim.Native.Nat.{ℕ, zero, suc, ◌+◌, ◌-◌, ◌≤◌, ◌<◌}
use native.Mathlib.Nat.{add-zero, zero-add}
use native.Mathlib.Omega.{arith}
use lib.Dec.{leb, leb→le, le→leb}
use Rattle.exact.specs.Rational.{ℚ, ◌+q◌, ◌-q◌, ◌*q◌, ◌/q◌, negq, inv, q0, q1}
use Rattle.exact.specs.Spline.{Σq, Knots, basis, whole, slope, dbasis, quotient, dexact, dwhole}
use Rattle.exact.proofs.Field.{qring, q-ring, q-combine, q-combine₂, zero-mul, mul-zero, inv-ne-0}
use Rattle.exact.proofs.Sum.{Σ-zero, Σ-split, Σ-scale, Σ-relative}
use Rattle.exact.proofs.Source.{alpha, alpha-is, work, cond_yes, cond_no}
use Rattle.exact.proofs.SourceCurve.{work-curve, next}
use Rattle.exact.proofs.Curve.{whole-curve}
use Rattle.exact.proofs.Deriv.{rest, basis-at, dbasis-low, dbasis-high, dlevel, dlevel-is, ddeboor, dcurve, ddeboor-is, quotient-relative}

-- the derivative of the source's `alpha`
unfoldable pub dalpha : (ℕ → ℚ) → ℕ → ℕ → ℕ → ℕ → ℚ
dalpha U p s l j = inv (U (s + j - l + 1) -q U (s - p + j))

-- the derivative part of the source's work[j] after l levels, from work = c with the derivatives d
unfoldable pub dwork : (ℕ → ℚ) → ℚ → ℕ → ℕ → (ℕ → ℚ) → (ℕ → ℚ) → ℕ → ℕ → ℚ
dwork U t p s c d zero j = d j
dwork U t p s c d (suc l) j = cond (leb (suc l) j)
    ((negq (dalpha U p s (suc l) j) *q work U t p s c l (j - 1) +q (q1 -q alpha U t p s (suc l) j) *q dwork U t p s c d l (j - 1))
    +q (dalpha U p s (suc l) j *q work U t p s c l j +q alpha U t p s (suc l) j *q dwork U t p s c d l j))
    (dwork U t p s c d l j)

module _ (U : ℕ → ℚ) (t : ℚ) (p s : ℕ) (c d : ℕ → ℚ) where
  pub dwork-in : (l j : ℕ) → l < j → dwork U t p s c d (suc l) j
      ≡ (negq (dalpha U p s (suc l) j) *q work U t p s c l (j - 1) +q (q1 -q alpha U t p s (suc l) j) *q dwork U t p s c d l (j - 1))
      +q (dalpha U p s (suc l) j *q work U t p s c l j +q alpha U t p s (suc l) j *q dwork U t p s c d l j)
  unfolding dwork
  dwork-in l j h = cond_yes _ _ (leb (suc l) j) (le→leb (suc l) j h)

  pub dwork-out : (l j : ℕ) → j ≤ l → dwork U t p s c d (suc l) j ≡ dwork U t p s c d l j
  unfolding dwork
  dwork-out l j h = cond_no _ _ (leb (suc l) j) (λ x. let y : suc l ≤ j = leb→le (suc l) j x in omega arith)

  dalpha-is : (k b l m : ℕ) → b + p ≡ s → l + suc k ≡ p → dalpha U p s (suc l) (suc l + m) ≡ slope U k (suc (b + l + m))
  unfolding dalpha slope
  dalpha-is k b l m e f =
      let x : s - p + (suc l + m) ≡ suc (b + l + m) = omega arith in
      let y : s + (suc l + m) - suc l + 1 ≡ suc (b + l + m) + suc k = omega arith in
      ap₂ (λ i j. inv (U j -q U i)) x y

  dnext : (k b l : ℕ) → b + p ≡ s → l + suc k ≡ p → (m : ℕ)
      → dlevel U t k (b + l) (λ m. work U t p s c l (l + m)) (λ m. dwork U t p s c d l (l + m)) m ≡ dwork U t p s c d (suc l) (suc l + m)
  dnext k b l e f m =
      let x : suc l + m - 1 ≡ l + m = omega arith in
      let y : l + suc m ≡ suc l + m = omega arith in
      dlevel-is U t k (b + l) (λ m. work U t p s c l (l + m)) (λ m. dwork U t p s c d l (l + m)) m
      ∙ sym (dwork-in l (suc l + m) (omega arith) ∙ rw (alpha-is U t p s c k b l m e f, dalpha-is k b l m e f, x, y))

  from-level : (k b l : ℕ) → b + p ≡ s → l + k ≡ p
      → ddeboor U t k (b + l) (λ m. work U t p s c l (l + m)) (λ m. dwork U t p s c d l (l + m)) ≡ dwork U t p s c d p p
  unfolding ddeboor
  from-level zero b l e f = let x : l ≡ p = omega arith in rw (add-zero, x)
  from-level (suc k) b l e f =
      let x : suc (b + l) ≡ b + suc l = omega arith in
      ap₂ (λ g g'. ddeboor U t k (suc (b + l)) g g') (fun_ext (next U t p s c k b l e f)) (fun_ext (dnext k b l e f))
      ∙ ap (λ i. ddeboor U t k i (λ m. work U t p s c (suc l) (suc l + m)) (λ m. dwork U t p s c d (suc l) (suc l + m))) x
      ∙ from-level k b (suc l) e (omega arith)

  pub dwork-is : (b : ℕ) → b + p ≡ s → dwork U t p s c d p p ≡ ddeboor U t p b c d
  unfolding work dwork
  dwork-is b e = sym (ap₂ (λ g g'. ddeboor U t p b g g') (fun_ext (λ m. ap c (sym (zero-add m)))) (fun_ext (λ m. ap d (sym (zero-add m))))
      ∙ ap (λ i. ddeboor U t p i (λ m. c (0 + m)) (λ m. d (0 + m))) (sym (add-zero b)) ∙ from-level p b 0 e (omega arith))

-- ---- the exact derivative

middle : (x y z m : ℚ) → x ≡ q0 → z ≡ q0 → m ≡ q0 → x +q y +q z ≡ y +q m
middle x y z m h k l = q-combine₂ q1 q1 h k (q-combine (negq q1) l (q-ring (x ∷ y ∷ z ∷ m ∷ []) (search qring depth 20) tt))

pub dwhole-is : (U : ℕ → ℚ) (t : ℚ) (s p b r : ℕ) (c : ℕ → ℚ) → b + p ≡ s → dwhole U t s p (b + suc p + r) c ≡ dcurve U t s p b (λ m. c (b + m)) (λ m. q0)
unfolding dwhole dcurve
dwhole-is U t s p b r c e =
    Σ-split (b + suc p) r (λ i. dbasis U t s p i *q c i)
    ∙ ap (λ x. x +q Σq r (λ m. dbasis U t s p (b + suc p + m) *q c (b + suc p + m))) (Σ-split b (suc p) (λ i. dbasis U t s p i *q c i))
    ∙ middle _ _ _ _
    (Σ-zero b (λ m l. rw (dbasis-low U t s p m (omega arith)) (zero-mul (c m))))
    (Σ-zero r (λ m l. rw (dbasis-high U t s p (b + suc p + m) (omega arith)) (zero-mul (c (b + suc p + m)))))
    (Σ-zero (suc p) (λ m l. mul-zero (basis U t s p (b + m))))

pub dwhole-active : (U : ℕ → ℚ) (t : ℚ) (s p b count : ℕ) (c : ℕ → ℚ) → b + p ≡ s → s < count → dwhole U t s p count c ≡ dcurve U t s p b (λ m. c (b + m)) (λ m. q0)
dwhole-active U t s p b count c e l =
    let x : count ≡ b + suc p + (count - (b + suc p)) = omega arith in
    ap (λ k. dwhole U t s p k c) x ∙ dwhole-is U t s p b (count - (b + suc p)) c e

module _ (U : ℕ → ℚ) (t : ℚ) (s p count : ℕ) (w : ℕ → ℚ) where
  pub whole-scale : (σ : ℚ) → whole U t s p count (λ i. w i /q σ) ≡ inv σ *q whole U t s p count w
  unfolding whole
  whole-scale σ = Σ-scale count (basis U t s p) w σ

  pub dwhole-scale : (σ : ℚ) → dwhole U t s p count (λ i. w i /q σ) ≡ inv σ *q dwhole U t s p count w
  unfolding dwhole
  dwhole-scale σ = Σ-scale count (dbasis U t s p) w σ

  pub whole-relative : (P : ℕ → ℚ) (r σ : ℚ) → whole U t s p count (λ i. (P i -q r) *q (w i /q σ))
      ≡ inv σ *q (whole U t s p count (λ i. w i *q P i) -q r *q whole U t s p count w)
  unfolding whole
  whole-relative P r σ = Σ-relative count (basis U t s p) w P r σ

  pub dwhole-relative : (P : ℕ → ℚ) (r σ : ℚ) → dwhole U t s p count (λ i. (P i -q r) *q (w i /q σ))
      ≡ inv σ *q (dwhole U t s p count (λ i. w i *q P i) -q r *q dwhole U t s p count w)
  unfolding dwhole
  dwhole-relative P r σ = Σ-relative count (dbasis U t s p) w P r σ

module _ {U : ℕ → ℚ} {n s : ℕ} (K : Knots U n s) (p b count : ℕ) (span : b + p ≡ s) (fits : s < count) (knots : s + p < n) where
  pub dwhole-work : (t : ℚ) (c : ℕ → ℚ) → dwhole U t s p count c ≡ dwork U t p s (λ m. c (b + m)) (λ m. q0) p p
  dwhole-work t c =
      dwhole-active U t s p b count c span fits
      ∙ sym (dwork-is U t p s (λ m. c (b + m)) (λ m. q0) b span ∙ ddeboor-is K t p b (λ m. c (b + m)) (λ m. q0) span knots)

  pub whole-work : (t : ℚ) (c : ℕ → ℚ) → whole U t s p count c ≡ work U t p s (λ m. c (b + m)) p p
  whole-work t c = whole-curve K p b count span fits knots t c ∙ sym (work-curve K t p b (λ m. c (b + m)) span knots)

  -- the exact derivative is what the source works out
  pub dexact-work : (t : ℚ) (w P : ℕ → ℚ) (r σ : ℚ) → σ ≢ q0 → whole U t s p count w ≢ q0
      → dexact U t s p count w P ≡ quotient
      (work U t p s (λ m. (P (b + m) -q r) *q (w (b + m) /q σ)) p p) (dwork U t p s (λ m. (P (b + m) -q r) *q (w (b + m) /q σ)) (λ m. q0) p p)
      (work U t p s (λ m. w (b + m) /q σ) p p) (dwork U t p s (λ m. w (b + m) /q σ) (λ m. q0) p p)
  unfolding dexact
  dexact-work t w P r σ h k =
      let X = whole U t s p count (λ i. w i *q P i) in
      let W = whole U t s p count w in
      let e₁ = sym (whole-work t (λ i. (P i -q r) *q (w i /q σ))) ∙ whole-relative U t s p count w P r σ in
      let e₂ = sym (dwhole-work t (λ i. (P i -q r) *q (w i /q σ))) ∙ dwhole-relative U t s p count w P r σ in
      let e₃ = sym (whole-work t (λ i. w i /q σ)) ∙ whole-scale U t s p count w σ in
      let e₄ = sym (dwhole-work t (λ i. w i /q σ)) ∙ dwhole-scale U t s p count w σ in
      rw (e₁, e₂, e₃, e₄) (sym (quotient-relative X (dwhole U t s p count (λ i. w i *q P i)) W (dwhole U t s p count w) r (inv σ) (inv-ne-0 h) k))

-- ---- the sum at t + h is the sum, h times its derivative, and h h times something

pub whole-at : (U : ℕ → ℚ) (t h : ℚ) (s p count : ℕ) (c : ℕ → ℚ)
    → whole U (t +q h) s p count c ≡ whole U t s p count c +q h *q dwhole U t s p count c +q h *q h *q Σq count (λ i. rest U t h s p i *q c i)
unfolding whole dwhole Σq
whole-at U t h s p zero c = q-ring (h ∷ []) (search qring depth 20) tt
whole-at U t h s p (suc n) c =
    ap₂ (λ x y. x +q y *q c n) (whole-at U t h s p n c) (basis-at U t h s p n)
    ∙ q-ring (Σq n (λ i. basis U t s p i *q c i) ∷ Σq n (λ i. dbasis U t s p i *q c i) ∷ Σq n (λ i. rest U t h s p i *q c i)
    ∷ basis U t s p n ∷ dbasis U t s p n ∷ rest U t h s p n ∷ c n ∷ h ∷ []) (search qring depth 20) tt
