-- The derivative on a span has only the 2 p knots and the p + 1 controls around it, as the sum has. And a window of knots: what stands outside it, and does not count, put in order. Assumes nothing.
-- U and W are the knots of two curves, s and s' a span of each, b and b' the first active control there.
use mathlib.Core.Path.{◌≡◌, refl, sym, ◌∙◌, ap, ap₂}
use mathlib.Core.Bool.{Bool, true, false, not, cond}
use mathlib.Core.Logic.{⊎_elim}
use Prim.Native.Nat.{ℕ, zero, suc, ◌+◌, ◌-◌, ◌≤◌, ◌<◌}
use native.Mathlib.Nat.{add-suc, suc-add}
use native.Mathlib.Omega.{arith}
use lib.Dec.{T, leb, leb→le, nleb→lt}
use Rattle.exact.specs.Rational.{ℚ, ◌+q◌, ◌-q◌, ◌*q◌, negq, inv, q0, ◌≤q◌, ◌<q◌}
use Rattle.exact.specs.Spline.{Knots, slope, rise, fall, basis, dbasis, dwhole, dexact}
use Rattle.exact.proofs.Sum.{Σ-cong}
use Rattle.exact.proofs.DeBoor.{basis-low, basis-high, mono-of-steps}
use Rattle.exact.proofs.Deriv.{dbasis-suc, dbasis-low, dbasis-high, dcurve}
use Rattle.exact.proofs.Jets.{dwhole-active}
use Rattle.exact.proofs.Local.{Near, both_zero, near-inner, left-knot, right-knot, rise-local, fall-local, basis-local, whole-local}
use Rattle.exact.proofs.Refined.{split}

module _ {U W : ℕ → ℚ} {k b b' : ℕ} (N : Near U W (suc k) b b') where
  slope-local : (i : ℕ) → i ≤ k → slope U k (suc (b + i)) ≡ slope W k (suc (b' + i))
  unfolding slope
  slope-local i h = ap₂ (λ x y. inv (y -q x)) (left-knot N i h) (right-knot N i h)

  module _ (t : ℚ) {s s' : ℕ} (e : b + suc k ≡ s) (e' : b' + suc k ≡ s') (below : (i : ℕ) → i ≤ k → dbasis U t s k (suc b + i) ≡ dbasis W t s' k (suc b' + i)) where
    value : (i : ℕ) → i ≤ k → basis U t s k (suc (b + i)) ≡ basis W t s' k (suc (b' + i))
    value i h = ap (basis U t s k) (sym (suc-add b i)) ∙ basis-local k (near-inner N) (omega arith) (omega arith) t i h ∙ ap (basis W t s' k) (suc-add b' i)

    inner : (i : ℕ) → i ≤ k → dbasis U t s k (suc (b + i)) ≡ dbasis W t s' k (suc (b' + i))
    inner i h = ap (dbasis U t s k) (sym (suc-add b i)) ∙ below i h ∙ ap (dbasis W t s' k) (suc-add b' i)

    rising : (i : ℕ) → i ≤ suc k → slope U k (b + i) *q basis U t s k (b + i) +q rise U t k (b + i) *q dbasis U t s k (b + i)
        ≡ slope W k (b' + i) *q basis W t s' k (b' + i) +q rise W t k (b' + i) *q dbasis W t s' k (b' + i)
    rising zero h = ap₂ ◌+q◌
        (both_zero _ _ (basis-low U t s k (b + 0) (omega arith)) (basis-low W t s' k (b' + 0) (omega arith)))
        (both_zero _ _ (dbasis-low U t s k (b + 0) (omega arith)) (dbasis-low W t s' k (b' + 0) (omega arith)))
    rising (suc i) h = rw (add-suc b i, add-suc b' i)
        (ap₂ ◌+q◌ (ap₂ ◌*q◌ (slope-local i (omega arith)) (value i (omega arith))) (ap₂ ◌*q◌ (rise-local N t i (omega arith)) (inner i (omega arith))))

    falling : (i : ℕ) → i ≤ suc k → negq (slope U k (suc (b + i))) *q basis U t s k (suc (b + i)) +q fall U t k (suc (b + i)) *q dbasis U t s k (suc (b + i))
        ≡ negq (slope W k (suc (b' + i))) *q basis W t s' k (suc (b' + i)) +q fall W t k (suc (b' + i)) *q dbasis W t s' k (suc (b' + i))
    falling i l = ⊎_elim
        (λ (h : i ≤ k). ap₂ ◌+q◌ (ap₂ (λ x y. negq x *q y) (slope-local i h) (value i h)) (ap₂ ◌*q◌ (fall-local N t i h) (inner i h)))
        (λ (h : k < i). ap₂ ◌+q◌
        (both_zero _ _ (basis-high U t s k (suc (b + i)) (omega arith)) (basis-high W t s' k (suc (b' + i)) (omega arith)))
        (both_zero _ _ (dbasis-high U t s k (suc (b + i)) (omega arith)) (dbasis-high W t s' k (suc (b' + i)) (omega arith)))) (split i k)

    next-local : (i : ℕ) → i ≤ suc k → dbasis U t s (suc k) (b + i) ≡ dbasis W t s' (suc k) (b' + i)
    next-local i l = dbasis-suc U t s k (b + i) ∙ ap₂ ◌+q◌ (rising i l) (falling i l) ∙ sym (dbasis-suc W t s' k (b' + i))

pub dbasis-local : (k : ℕ) {U W : ℕ → ℚ} {b b' s s' : ℕ} → Near U W k b b' → b + k ≡ s → b' + k ≡ s' → (t : ℚ) (i : ℕ) → i ≤ k
    → dbasis U t s k (b + i) ≡ dbasis W t s' k (b' + i)
unfolding dbasis
dbasis-local zero N e e' t i l = refl
dbasis-local (suc k) N e e' t i l = next-local N t e e' (λ j h. dbasis-local k (near-inner N) (omega arith) (omega arith) t j h) i l

module _ {U W : ℕ → ℚ} {p b b' : ℕ} (N : Near U W p b b') {s s' count count' : ℕ} (e : b + p ≡ s) (e' : b' + p ≡ s') (l : s < count) (l' : s' < count') (t : ℚ) where
  dwhole-local : (c d : ℕ → ℚ) → ((i : ℕ) → i ≤ p → c (b + i) ≡ d (b' + i)) → dwhole U t s p count c ≡ dwhole W t s' p count' d
  unfolding dcurve
  dwhole-local c d h = dwhole-active U t s p b count c e l
      ∙ ap₂ ◌+q◌
      (Σ-cong (suc p) (λ m g. ap₂ ◌*q◌ (dbasis-local p N e e' t m (omega arith)) (h m (omega arith))))
      (Σ-cong (suc p) (λ m g. ap (λ x. x *q q0) (basis-local p N e e' t m (omega arith))))
      ∙ sym (dwhole-active W t s' p b' count' d e' l')

  pub dexact-local : (w P v Q : ℕ → ℚ) → ((i : ℕ) → i ≤ p → w (b + i) ≡ v (b' + i)) → ((i : ℕ) → i ≤ p → P (b + i) ≡ Q (b' + i))
      → dexact U t s p count w P ≡ dexact W t s' p count' v Q
  unfolding dexact
  dexact-local w P v Q h g =
      let c : ℕ → ℚ = λ i. w i *q P i in
      let d : ℕ → ℚ = λ i. v i *q Q i in
      let f : (i : ℕ) → i ≤ p → c (b + i) ≡ d (b' + i) = λ i m. ap₂ ◌*q◌ (h i m) (g i m) in
      rw (whole-local N e e' l l' t c d f, dwhole-local c d f, whole-local N e e' l l' t w v h, dwhole-local w v h)

-- ---- a window of knots: c to c + d, the first repeated before them and the last behind

least : ℕ → ℕ → ℕ
least a d = cond (leb a d) a d

least-of : (a d : ℕ) → (a ≤ d → least a d ≡ a) × (d ≤ a → least a d ≡ d)
unfolding least
least-of a d = go (leb a d) (leb→le a d) (nleb→lt a d)
  where
    go : (x : Bool) → (T x → a ≤ d) → (T (not x) → d < a) → (a ≤ d → cond x a d ≡ a) × (d ≤ a → cond x a d ≡ d)
    go true f g = let h = f tt in (λ k. refl, λ k. omega arith)
    go false f g = let h = g tt in (λ k. absurd (omega arith), λ k. refl)

least-le : (a d : ℕ) → least a d ≤ d
least-le a d = ⊎_elim (λ (h : a ≤ d). let e = (least-of a d).0 h in omega arith) (λ (h : d < a). let e = (least-of a d).1 (omega arith) in omega arith) (split a d)

least-mono : (a b d : ℕ) → a ≤ b → least a d ≤ least b d
least-mono a b d l = ⊎_elim
    (λ (h : b ≤ d). let e = (least-of b d).0 h in let f = (least-of a d).0 (omega arith) in omega arith)
    (λ (h : d < b). let e = (least-of b d).1 (omega arith) in let f = least-le a d in omega arith) (split b d)

module _ (U : ℕ → ℚ) (c d : ℕ) where
  unfoldable pub window : ℕ → ℚ
  unfolding least
  window i = U (c + least (i - c) d)

  pub window-is : (i : ℕ) → c ≤ i → i ≤ c + d → window i ≡ U i
  unfolding window
  window-is i h l =
      let e = (least-of (i - c) d).0 (omega arith) in
      let f : c + least (i - c) d ≡ i = omega arith in
      ap U f

  -- in order as far as it goes, so everywhere
  pub window-knots : ((i : ℕ) → i < d → U (c + i) ≤q U (c + suc i)) → (n s : ℕ) → c ≤ s → s < c + d → U s <q U (suc s) → Knots window n s
  unfolding window
  window-knots steps n s h l gap = record {
    mono = λ i j m k. mono-of-steps (λ i. U (c + i)) (suc d) (λ i m. steps i (omega arith)) (least (i - c) d) (least (j - c) d) (least-mono (i - c) (j - c) d (omega arith))
        (let x = least-le (j - c) d in omega arith);
    gap = rw (window-is s h (omega arith), window-is (suc s) (omega arith) (omega arith)) gap;
  }
