-- The span of a parameter: knots in order have one for each parameter of the domain. And a curve asks for its own knots alone. Assumes nothing.
use mathlib.Core.Path.{◌≡◌, refl, subst}
use mathlib.Core.Logic.{⊎_elim}
use Prim.Native.Nat.{ℕ, zero, suc, ◌+◌, ◌-◌, ◌≤◌, ◌<◌}
use native.Mathlib.Nat.{add-zero}
use native.Mathlib.Omega.{arith}
use Rattle.exact.specs.Rational.{ℚ, ◌≤q◌, ◌<q◌}
use Rattle.exact.specs.Spline.{exact}
use Rattle.exact.specs.Boehm.{SpanOf, InSpan, InEnd}
use Rattle.exact.proofs.Field.{≤-<-trans, <-≤-trans, not-both, le-or-lt}
use Rattle.exact.proofs.Local.{exact-local}

-- ---- a nonempty span is one that has a parameter
module _ {U : ℕ → ℚ} {p count s : ℕ} (mono : (i j : ℕ) → i ≤ j → j < count + suc p → U i ≤q U j) (first : p ≤ s) (last : s < count) {t : ℚ} where
  pub span-in : InSpan U s t → SpanOf U p count s
  span-in I = record { first = first; last = last; knots = record { mono = mono; gap = ≤-<-trans I.from I.to } }

  pub span-end : InEnd U s t → SpanOf U p count s
  span-end I = record { first = first; last = last; knots = record { mono = mono; gap = <-≤-trans I.from I.to } }

-- ---- between two places there is one
module _ (U : ℕ → ℚ) (t : ℚ) where
  search-in : (a m : ℕ) → U a ≤q t → t <q U (a + m) → (s : ℕ) × (a ≤ s) × (s < a + m) × InSpan U s t
  search-in a zero l h = absurd (not-both (subst (λ i. t <q U i) (add-zero a) h) l)
  search-in a (suc m) l h = ⊎_elim
      (λ (k : U (suc a) ≤q t).
      let e : a + suc m ≡ suc a + m = omega arith in
      let r = search-in (suc a) m k (subst (λ i. t <q U i) e h) in
      let x = r.1 in
      let y = r.2 in
      (r.0, omega arith, omega arith, r.3))
      (λ (k : t <q U (suc a)). (a, omega arith, omega arith, record { from = l; to = k }))
      (le-or-lt (U (suc a)) t)

  search-end : (a m : ℕ) → U a <q t → t ≤q U (a + m) → (s : ℕ) × (a ≤ s) × (s < a + m) × InEnd U s t
  search-end a zero l h = absurd (not-both l (subst (λ i. t ≤q U i) (add-zero a) h))
  search-end a (suc m) l h = ⊎_elim
      (λ (k : t ≤q U (suc a)). (a, omega arith, omega arith, record { from = l; to = k }))
      (λ (k : U (suc a) <q t).
      let e : a + suc m ≡ suc a + m = omega arith in
      let r = search-end (suc a) m k (subst (λ i. t ≤q U i) e h) in
      let x = r.1 in
      let y = r.2 in
      (r.0, omega arith, omega arith, r.3))
      (le-or-lt t (U (suc a)))

-- each parameter of the domain has its span
module _ (U : ℕ → ℚ) (p count : ℕ) (mono : (i j : ℕ) → i ≤ j → j < count + suc p → U i ≤q U j) (some : p ≤ count) (t : ℚ) where
  pub span-there : U p ≤q t → t <q U count → (s : ℕ) × SpanOf U p count s × InSpan U s t
  span-there l h =
      let e : count ≡ p + (count - p) = omega arith in
      let r = search-in U t p (count - p) l (subst (λ i. t <q U i) e h) in
      let y : r.0 < p + (count - p) = r.2 in
      (r.0, span-in mono r.1 (omega arith) r.3, r.3)

  pub end-there : U p <q t → t ≤q U count → (s : ℕ) × SpanOf U p count s × InEnd U s t
  end-there l h =
      let e : count ≡ p + (count - p) = omega arith in
      let r = search-end U t p (count - p) l (subst (λ i. t ≤q U i) e h) in
      let y : r.0 < p + (count - p) = r.2 in
      (r.0, span-end mono r.1 (omega arith) r.3, r.3)

-- ---- knots that are the same up to the curve's last one
module _ {U W : ℕ → ℚ} (p count : ℕ) (same : (i : ℕ) → i < count + suc p → U i ≡ W i) {s : ℕ} (last : s < count) (t : ℚ) where
  pub in-same : InSpan U s t → InSpan W s t
  in-same I = record { from = subst (λ y. y ≤q t) (same s (omega arith)) I.from; to = subst (λ y. t <q y) (same (suc s) (omega arith)) I.to }

  pub end_same : InEnd U s t → InEnd W s t
  end_same I = record { from = subst (λ y. y <q t) (same s (omega arith)) I.from; to = subst (λ y. t ≤q y) (same (suc s) (omega arith)) I.to }

  pub exact_same : p ≤ s → (w P : ℕ → ℚ) → exact U t s p count w P ≡ exact W t s p count w P
  exact_same first w P =
      exact-local (record { alike = λ i g h. same (s - p + i) (omega arith) }) (omega arith) (omega arith) last last t w P w P (λ i h. refl) (λ i h. refl)
