-- The source's work[degree] after its levels is de Boor's result, and so the curve's sum. Assumes nothing.
use mathlib.Core.Path.{◌≡◌, sym, ◌∙◌, ap, ap₂, fun_ext}
use Prim.Native.Nat.{ℕ, zero, suc, ◌+◌, ◌-◌, ◌<◌}
use native.Mathlib.Nat.{add-zero, zero-add}
use native.Mathlib.Omega.{arith}
use Rattle.exact.specs.Rational.{ℚ}
use Rattle.exact.specs.Spline.{Knots}
use Rattle.exact.proofs.DeBoor.{level, level-is, deboor, curve, deboor-is}
use Rattle.exact.proofs.Source.{work, work_in, alpha-is}

module _ (U : ℕ → ℚ) (t : ℚ) (p s : ℕ) (c : ℕ → ℚ) where
  pub next : (k b l : ℕ) → b + p ≡ s → l + suc k ≡ p → (m : ℕ)
      → level U t k (b + l) (λ m. work U t p s c l (l + m)) m ≡ work U t p s c (suc l) (suc l + m)
  next k b l e f m =
      let x : suc l + m - 1 ≡ l + m = omega arith in
      let y : l + suc m ≡ suc l + m = omega arith in
      level-is U t k (b + l) (λ m. work U t p s c l (l + m)) m
      ∙ sym (work_in U t p s c l (suc l + m) (omega arith) ∙ rw (alpha-is U t p s c k b l m e f, x, y))

  from-level : (k b l : ℕ) → b + p ≡ s → l + k ≡ p → deboor U t k (b + l) (λ m. work U t p s c l (l + m)) ≡ work U t p s c p p
  unfolding deboor
  from-level zero b l e f = let x : l ≡ p = omega arith in rw (add-zero, x)
  from-level (suc k) b l e f =
      let x : suc (b + l) ≡ b + suc l = omega arith in
      ap₂ (λ i d. deboor U t k i d) x (fun_ext (next k b l e f)) ∙ from-level k b (suc l) e (omega arith)

  -- the source's work[degree] at the end is de Boor's result
  pub work-is : (b : ℕ) → b + p ≡ s → work U t p s c p p ≡ deboor U t p b c
  unfolding work
  work-is b e = sym (ap₂ (λ i d. deboor U t p i d) (sym (add-zero b)) (fun_ext (λ m. ap c (sym (zero-add m)))) ∙ from-level p b 0 e (omega arith))

-- .. and so the curve's sum
pub work-curve : {U : ℕ → ℚ} {n s : ℕ} (K : Knots U n s) (t : ℚ) (p b : ℕ) (c : ℕ → ℚ) → b + p ≡ s → s + p < n
    → work U t p s c p p ≡ curve U t s p b c
work-curve {U} {n} {s} K t p b c e f = work-is U t p s c b e ∙ deboor-is K t p b c e f
