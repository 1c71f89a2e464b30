-- The decimal of a double by its bits: the sign, the size, and the size's field and rest.
-- Assumes nothing.
use Prim.Native.Nat.{ℕ, zero, suc, ◌+◌, ◌-◌, ◌*◌, ◌/◌, ◌%◌, ◌^◌, ◌≤◌, ◌<◌}
use mathlib.Core.Bool.{Bool, true, false, cond}
use mathlib.Core.Path.{◌≡◌, refl, sym, ◌∙◌, ap}
use mathlib.Core.List.{List, [], ◌∷◌, ◌++◌}
use native.Mathlib.Nat.{mul_right_comm, mul-one}
use native.Mathlib.Omega.{arith}
use lib.Dec.{T, leb, ltb, eqb}
use lib.Pow.{pow_pos}
use lib.IntN.{ℤ}
use lib.Ieee.{Float, nan, inf, fin, binary64, up, down, unlike, hid, fits, to_bits}
use lib.Ieee.Fits.{down_pos}
use borrow.Author.Tests.{lt-ltb, le-ltb, le-leb, lt-leb, ne_eqb}
use Rattle.doubles.specs.Place.{mag}
use Rattle.doubles.proofs.Pattern.{field, ticks}
use Rattle.doubles.proofs.Place.{to_bits-split, mag-lt, units_of}
use Rattle.decimals.specs.Fixed.{whole, minus, billionths, fixed}
use Rattle.decimals.proofs.Rounding.{whole_same}

-- the infinity's size, and the sign's weight
abbrev limit : ℕ
limit = 0x7ff0000000000000

abbrev sign : ℕ
sign = 0x8000000000000000

-- the text by sign and size
abbrev pub text_of : Bool → Bool → ℕ → List ℕ
text_of above s size =
    cond (ltb limit size)
    (110 ∷ 97 ∷ 110 ∷ [])
    (cond (eqb size limit) (minus s ++ (105 ∷ 110 ∷ 102 ∷ [])) (billionths s (whole (unlike above s) (ticks binary64 size * 1000000000) (2 ^ 1074))))

-- ---- the two parts of a pattern

sign-is : (s : Bool) (r : ℕ) → r < sign → leb sign (cond s sign 0 + r) ≡ s
sign-is true r h = le-leb sign (sign + r) (omega arith)
sign-is false r h = lt-leb sign (0 + r) (omega arith)

size_is : (s : Bool) (r : ℕ) → r < sign → (cond s sign 0 + r) % sign ≡ r
size_is true r h = omega arith
size_is false r h = omega arith

parts : (above : Bool) (b : ℕ) (s : Bool) (r : ℕ) → b ≡ cond s sign 0 + r → r < sign → text_of above (leb sign b) (b % sign) ≡ text_of above s r
parts above b s r e h =
    let p : leb sign b ≡ s = rw e (sign-is s r h) in
    let q : b % sign ≡ r = rw e (size_is s r h) in
    rw (p, q)

finite-is : (above s : Bool) (m : ℕ) (e : ℤ) (r : ℕ) → r < limit → m * up e * 2 ^ 1074 ≡ ticks binary64 r * down e → fixed above (fin s m e) ≡ text_of above s r
unfolding fixed
finite-is above s m e r h v =
    let n = ticks binary64 r in
    let cross : m * up e * 1000000000 * 2 ^ 1074 ≡ n * 1000000000 * down e = mul_right_comm (m * up e) 1000000000 (2 ^ 1074) ∙ ap (λ z. z * 1000000000) v ∙ mul_right_comm n (down e) 1000000000 in
    rw
    (le-ltb limit r (omega arith), ne_eqb r limit (λ z. omega arith))
    (ap (billionths s) (whole_same (unlike above s) (m * up e * 1000000000) (down e) (n * 1000000000) (2 ^ 1074) (down_pos e) (pow_pos 1074) cross))

at-nan : (above : Bool) → fixed above nan ≡ text_of above (leb sign (to_bits binary64 nan)) (to_bits binary64 nan % sign)
unfolding fixed to_bits
at-nan above = refl

at-inf : (above s : Bool) → fixed above (inf s) ≡ text_of above (leb sign (to_bits binary64 (inf s))) (to_bits binary64 (inf s) % sign)
unfolding fixed to_bits
at-inf above true = refl
at-inf above false = refl

fixed-is : (above : Bool) (x : Float) → T (fits binary64 x) → fixed above x ≡ text_of above (leb sign (to_bits binary64 x)) (to_bits binary64 x % sign)
fixed-is above nan h = at-nan above
fixed-is above (inf s) h = at-inf above s
fixed-is above (fin s m e) h =
    let r = mag binary64 (fin s m e) in
    let small : r < limit = mag-lt binary64 s m e h in
    finite-is above s m e r small (units_of binary64 s m e h).1 ∙ sym (parts above (to_bits binary64 (fin s m e)) s r (to_bits-split binary64 s m e) (omega arith))

-- ---- the four answers

module _ (above : Bool) (x : Float) (h : T (fits binary64 x)) (b : ℕ) (e : b ≡ to_bits binary64 x) where
  by_bits : fixed above x ≡ text_of above (leb sign b) (b % sign)
  by_bits = rw e (fixed-is above x h)

  pub nan_is : limit < b % sign → fixed above x ≡ 110 ∷ 97 ∷ 110 ∷ []
  nan_is l = by_bits ∙ rw (lt-ltb limit (b % sign) l)

  pub inf-is : b % sign ≡ limit → fixed above x ≡ minus (leb sign b) ++ (105 ∷ 110 ∷ 102 ∷ [])
  inf-is l = by_bits ∙ rw l

  finite : b % sign ≤ limit → (b % sign ≡ limit → ⊥) → fixed above x ≡ billionths (leb sign b) (whole (unlike above (leb sign b)) (ticks binary64 (b % sign) * 1000000000) (2 ^ 1074))
  finite l n = by_bits ∙ rw (le-ltb limit (b % sign) l, ne_eqb (b % sign) limit n)

  -- with no leading digit
  pub small_is : b % sign ≤ limit → (b % sign ≡ limit → ⊥) → b % sign / 0x10000000000000 ≡ 0 →
      fixed above x ≡ billionths (leb sign b) (whole (unlike above (leb sign b)) (b % sign % 0x10000000000000 * 2 ^ 0 * 1000000000) (2 ^ 1074))
  small_is l n z = finite l n ∙ rw (z, mul-one)

  -- with one
  pub large_is : b % sign ≤ limit → (b % sign ≡ limit → ⊥) → (b % sign / 0x10000000000000 ≡ 0 → ⊥) →
      fixed above x ≡ billionths (leb sign b) (whole (unlike above (leb sign b)) ((0x10000000000000 + b % sign % 0x10000000000000) * 2 ^ (b % sign / 0x10000000000000 - 1) * 1000000000) (2 ^ 1074))
  large_is l n z =
      let text : ℕ → List ℕ = λ k. billionths (leb sign b) (whole (unlike above (leb sign b)) (field binary64 k (b % sign % hid binary64) * 1000000000) (2 ^ 1074)) in
      finite l n ∙ ap text (field_is (b % sign / 0x10000000000000) z)
    where
      field_is : (k : ℕ) → (k ≡ 0 → ⊥) → k ≡ suc (k - 1)
      field_is zero z = absurd (z refl)
      field_is (suc k) z = omega arith
