-- Counts of points are small numbers.
-- Assumes nothing.
use Prim.Native.Nat.{ℕ, ◌+◌, ◌-◌, ◌*◌, ◌≤◌, ◌<◌}
use mathlib.Core.Bool.{Bool, true, false, not, ◌&&◌}
use mathlib.Core.Path.{◌≡◌, refl, ap, ap₂}
use mathlib.Core.List.{List}
use native.Mathlib.Omega.{arith}
use native.Mathlib.Nat.{mul-le-mul, mul-le-mul_right}
use borrow.Author.Tests.{ne_eqb, eqb-true, eqb-false, ltb-false}
use lib.ListN.{length}
use lib.Dec.{eqb, ltb}
use lib.Ieee.{Float}
use Rattle.elevation.specs.Breaks.{breaks_of}
use Rattle.elevation.specs.Elevate.{extracted_count, raised_count}
use Rattle.elevation.specs.Whole.{elevated_count}
use Rattle.elevation.specs.Passes.{BreaksCounted}
use Rattle.elevation.proofs.BreakWalks.{breaks-few, full-le}

pub product_small : (e b : ℕ) → e ≤ 64 → (e + 1) * (b + 1) ≤ 65 * (b + 1)
product_small e b l = let s : e + 1 ≤ 65 = omega arith in mul-le-mul_right (b + 1) s

-- a higher degree that is not refused
pub not-high : (p e : ℕ) → (not (eqb e p) && ltb 64 e) ≡ false → (e ≡ p → ⊥) → e ≤ 64
not-high p e h n = ltb-false 64 e (go (eqb e p) (ne_eqb e p n) h)
  where
    go : (x : Bool) → x ≡ false → (not x && ltb 64 e) ≡ false → ltb 64 e ≡ false
    go true y z = let w : ◌≡◌ {A = ℕ} 0 1 = cc in absurd (omega arith)
    go false y z = z

module _ (p n : ℕ) (ks : List Float) (l : p < n) (s : n ≤ 1048576) where
  abbrev BS : List Float
  BS = breaks_of p n ks

  pub breaks-small : length BS < 1048576
  breaks-small = omega (arith, breaks-few p n ks l)

  pub extracted-small : (b : ℕ) → b ≡ length BS → (p + 1) * (b + 1) ≤ 1099511627776
  extracted-small b e =
      let x : p + 1 ≤ 1048576 = omega arith in
      let y : b + 1 ≤ 1048576 = omega (arith, breaks-small) in
      mul-le-mul x y

  pub raised-small : (e : ℕ) → ((e ≡ p → ⊥) → e ≤ 64) → (elevated_count p e n ks ≤ 68157440) × (e ≤ 1048576)
  unfolding elevated_count raised_count
  raised-small e h = go (eqb e p) refl
    where
      go : (x : Bool) → eqb e p ≡ x → (elevated_count p e n ks ≤ 68157440) × (e ≤ 1048576)
      go true E = let q = eqb-true e p E in (simp E (omega arith), omega arith)
      go false E =
          let u = h (eqb-false e p E) in
          let b = breaks-small in
          let f = full-le p ks BS in
          let m = product_small e (length BS) u in
          (simp E (omega arith), omega arith)

  pub counted : (e b f : ℕ) → (e ≡ p → ⊥) → BreaksCounted p ks BS b f → (e + 1) * (b + 1) - b + f ≡ elevated_count p e n ks
  unfolding elevated_count raised_count
  counted e b f h C = simp (ne_eqb e p h) (ap₂ (λ (x y : ℕ). (e + 1) * (x + 1) - x + y) C.breaks C.full)

  pub extracted-is : (b f : ℕ) → BreaksCounted p ks BS b f → (p + 1) * (b + 1) ≡ extracted_count p BS
  unfolding extracted_count
  extracted-is b f C = ap (λ (x : ℕ). (p + 1) * (x + 1)) C.breaks
