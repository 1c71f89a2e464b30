-- A product that is tested by a quotient and a remainder, and a sum by differences, so that nothing wraps.
-- Assumes nothing.
use Prim.Native.Nat.{ℕ, ◌+◌, ◌-◌, ◌*◌, ◌/◌, ◌%◌, ◌<◌}
use mathlib.Core.Bool.{Bool, true, false}
use mathlib.Core.Path.{◌≡◌, refl, sym, ◌∙◌, ap}
use native.Mathlib.Omega.{arith}
use native.Mathlib.Nat.{zero-mul, add-zero, div-add-mod, mul-mod_right, mul-div_right}
use lib.Dec.{eqb}
use borrow.Author.Tests.{eqb-true, eqb-false, eq-eqb, ne_eqb}

pub none-product : (n a b : ℕ) → a ≡ 0 → eqb n 0 ≡ eqb n (a * b)
none-product n a b e = ap (λ (m : ℕ). eqb n m) (sym (ap (λ (x : ℕ). x * b) e ∙ zero-mul b))

pub not-product : (n a b : ℕ) → (n % a ≡ 0 → ⊥) → false ≡ eqb n (a * b)
not-product n a b h = sym (ne_eqb n (a * b) (λ e. h (ap (λ (m : ℕ). m % a) e ∙ mul-mod_right a b)))

pub test-product : (n a b : ℕ) → (a ≡ 0 → ⊥) → n % a ≡ 0 → eqb (n / a) b ≡ eqb n (a * b)
test-product n a b h r = go (eqb (n / a) b) refl
  where
    whole : a * (n / a) ≡ n
    whole = sym (add-zero (a * (n / a))) ∙ (ap (λ (m : ℕ). a * (n / a) + m) (sym r) ∙ div-add-mod n a)

    go : (t : Bool) → eqb (n / a) b ≡ t → eqb (n / a) b ≡ eqb n (a * b)
    go true e = e ∙ sym (eq-eqb n (a * b) (sym whole ∙ ap (λ (m : ℕ). a * m) (eqb-true (n / a) b e)))
    go false e = e ∙ sym (ne_eqb n (a * b) (λ q. eqb-false (n / a) b e (ap (λ (m : ℕ). m / a) q ∙ mul-div_right b (omega arith))))

-- a sum that is tested by differences
pub test_sum : (n a b : ℕ) → a + b < n → eqb (n - a - b) 1 ≡ eqb n (a + b + 1)
test_sum n a b l = go (eqb (n - a - b) 1) refl
  where
    go : (t : Bool) → eqb (n - a - b) 1 ≡ t → eqb (n - a - b) 1 ≡ eqb n (a + b + 1)
    go true e = let q = eqb-true (n - a - b) 1 e in e ∙ sym (eq-eqb n (a + b + 1) (omega arith))
    go false e = let q = eqb-false (n - a - b) 1 e in e ∙ sym (ne_eqb n (a + b + 1) (λ z. q (omega arith)))
