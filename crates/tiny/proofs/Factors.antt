-- A factor stands for its double in every product with k of the smallest doubles, k below 1024. Assumes nothing.
use mathlib.Core.Path.{◌≡◌, refl, sym, ap, ◌∙◌, subst}
use Prim.Native.Nat.{ℕ, suc, ◌+◌, ◌-◌, ◌*◌, ◌/◌, ◌%◌, ◌^◌, ◌≤◌, ◌<◌}
use native.Mathlib.Nat.{lt_irrefl, mul-zero, le_of_eq, le_of_lt, lt_of_lt_of_le, lt_of_le_of_lt, add-zero, add_comm, mul_assoc, mul-le-mul_left, mul-le-mul_right, mul-lt-mul_of_pos_right, mul-lt-mul_of_pos_left}
use native.Mathlib.Omega.{arith}
use mathlib.Core.Bool.{Bool, true, false, not, ◌&&◌, cond}
use lib.Dec.{T, ltb, ltb→lt, nltb→le, lit≤}
use lib.Pow.{pow-add, pow_pos, pow_mono}
use borrow.Author.Tests.{lt-ltb}
use lib.Ieee.{binary64, mul, of_bits, to_bits}
use lib.Ieee.Fits.{mul-fits}
use lib.Ieee.Bits.{of_bits-to_bits}
use lib.Ieee.Nearest.{closest, closest_same}
use Rattle.doubles.proofs.Pattern.{ticks, ticks-at, ticks-lt, field, hid-pos}
use Rattle.tiny.specs.declared.Factor.{Factor}
use Rattle.tiny.specs.Factors.{factor_of, times_of}
use Rattle.tiny.proofs.Units.{ticks-low, closest-low, product-bits}
use Rattle.tiny.proofs.Halves.{less-than-half}

-- the weight of the exponent's field
abbrev weight : ℕ
weight = 0x10_0000_0000_0000

-- with the exponent's field e + 1 only the digits' field is a factor, and the field says how many digits are dropped
whole : (e : ℕ) → e ≤ 1074 → e + (1074 - e) ≡ 1074
whole e h = omega arith

digits-at : (k x e : ℕ) → x / weight ≡ suc e → e ≤ 1074 → closest (k * ticks binary64 x) (2 ^ 1074) ≡ closest (k * (x % weight + weight)) (2 ^ (1074 - e))
digits-at k x e h l =
    let t = x % weight in
    ap (λ (z : ℕ). closest (k * field binary64 z t) (2 ^ 1074)) h
    ∙ ap (λ (z : ℕ). closest (k * (z * 2 ^ e)) (2 ^ 1074)) (add_comm weight t)
    ∙ closest_same (k * ((t + weight) * 2 ^ e)) (2 ^ 1074) (k * (t + weight)) (2 ^ (1074 - e)) (pow_pos 1074) (pow_pos (1074 - e))
    (ap (λ (z : ℕ). z * 2 ^ (1074 - e)) (sym (mul_assoc k (t + weight) (2 ^ e)))
    ∙ mul_assoc (k * (t + weight)) (2 ^ e) (2 ^ (1074 - e))
    ∙ ap (λ (z : ℕ). k * (t + weight) * z) (sym (pow-add 2 e (1074 - e)) ∙ ap (λ (z : ℕ). 2 ^ z) (whole e l)))

by_digits : (k x : ℕ) → weight ≤ x → x / weight ≤ 1075 → closest (k * (x % weight + weight)) (2 ^ (1075 - x / weight)) ≡ closest (k * ticks binary64 x) (2 ^ 1074)
by_digits k x h l =
    let e : x / weight ≡ suc (x / weight - 1) = omega arith in
    let d : 1075 - x / weight ≡ 1074 - (x / weight - 1) = omega arith in
    ap (λ (z : ℕ). closest (k * (x % weight + weight)) (2 ^ z)) d ∙ sym (digits-at k x (x / weight - 1) e (omega arith))

-- below the exponent's field j + 1
size_below : (j k x : ℕ) → k < 1024 → x < suc j * weight → k * ticks binary64 x < 1024 * (weight * 2 ^ j)
size_below j k x K h =
    let l : ticks binary64 x < weight * 2 ^ j = lt_of_lt_of_le (ticks-lt binary64 x (suc j * weight) h) (le_of_eq (ap (ticks binary64) (sym (add-zero (suc j * weight))) ∙ ticks-at binary64 (suc j) 0 (hid-pos binary64))) in
    lt_of_le_of_lt (mul-le-mul_right (ticks binary64 x) (le_of_lt K)) (mul-lt-mul_of_pos_left l (lit≤ tt))

-- less than half a unit
vanishes : (k x : ℕ) → k < 1024 → x < 0x3f40_0000_0000_0000 → closest (k * ticks binary64 x) (2 ^ 1074) ≡ 0
vanishes k x K h = less-than-half (k * ticks binary64 x) (2 ^ 1074) (lt_of_lt_of_le (mul-lt-mul_of_pos_right (size_below 1011 k x K h) (lit≤ tt)) (lit≤ tt))

-- the product's pattern is the number of units
in-units : (k x : ℕ) → k < 1024 → x < 0x4290_0000_0000_0000 → to_bits binary64 (mul binary64 (of_bits binary64 k) (of_bits binary64 x)) ≡ closest (k * ticks binary64 x) (2 ^ 1074)
in-units k x K h =
    let e : ticks binary64 k ≡ k = ticks-low binary64 k (le_of_lt (lt_of_lt_of_le K (lit≤ tt))) in
    product-bits binary64 k x (lt_of_lt_of_le K (lit≤ tt)) (lt_of_lt_of_le h (lit≤ tt))
    (subst (λ (z : ℕ). z * ticks binary64 x < weight * 2 ^ 1074) (sym e) (lt_of_lt_of_le (size_below 1064 k x K h) (lit≤ tt)))
    ∙ ap (λ (z : ℕ). closest (z * ticks binary64 x) (2 ^ 1074)) e

-- ---- the factor of a pattern, where there is one
pub record Serves (x : ℕ) (f : Factor) : Type 0 where
  pub digits : f.m < 2 ^ 53
  pub least : 11 ≤ f.shift
  pub most : f.shift < 64
  pub product : (k : ℕ) → k < 1024 → to_bits binary64 (mul binary64 (of_bits binary64 k) (of_bits binary64 x)) ≡ closest (k * f.m) (2 ^ f.shift)

module _ (x : ℕ) where
  small : x < 0x3f40_0000_0000_0000 → Serves x (record { m = 0; shift = 63 })
  small h =
      record {
        digits = lit≤ tt;
        least = lit≤ tt;
        most = lit≤ tt;
        product = λ k K. in-units k x K (lt_of_lt_of_le h (lit≤ tt)) ∙ vanishes k x K h ∙ ap (λ (z : ℕ). closest z (2 ^ 63)) (sym (mul-zero k));
      }

  normal : 0x3f40_0000_0000_0000 ≤ x → x < 0x4290_0000_0000_0000 → Serves x (record { m = x % weight + weight; shift = 1075 - x / weight })
  normal l h =
      record {
        digits = omega arith;
        least = omega arith;
        most = omega arith;
        product = λ k K. in-units k x K h ∙ sym (by_digits k x (omega arith) (omega arith));
      }

abbrev chosen : Bool → Bool → ℕ → Factor
chosen a b x = cond a (record { m = 0; shift = 63 }) (cond b (record { m = x % weight + weight; shift = 1075 - x / weight }) (record { m = 0; shift = 0 }))

serves : (x : ℕ) → 0 < (factor_of x).shift → Serves x (factor_of x)
unfolding factor_of
serves x = go (ltb x 0x3f40_0000_0000_0000) (ltb x 0x4290_0000_0000_0000) (ltb→lt x 0x3f40_0000_0000_0000) (nltb→le x 0x3f40_0000_0000_0000) (ltb→lt x 0x4290_0000_0000_0000)
  where
    go : (a b : Bool) → (T a → x < 0x3f40_0000_0000_0000) → (T (not a) → 0x3f40_0000_0000_0000 ≤ x) → (T b → x < 0x4290_0000_0000_0000) → 0 < (chosen a b x).shift → Serves x (chosen a b x)
    go true b p q r h = small x (p tt)
    go false true p q r h = normal x (q tt) (r tt)
    go false false p q r h = absurd (lt_irrefl 0 h)

pub served : (x : ℕ) (f : Factor) → f ≡ factor_of x → 0 < f.shift → Serves x f
served x f e h = rw e (serves x (rw e at h))

-- the product of the whole numbers fits 64 bits
pub exact : (k m : ℕ) → k < 1024 → m < 2 ^ 53 → k * m < 2 ^ 63
exact k m h l = lt_of_le_of_lt (mul-le-mul_right m (le_of_lt h)) (omega arith)

-- ---- the product of a factor is that of its double
pub times-bits : (k x : ℕ) → k < 1024 → 0 < (factor_of x).shift → times_of (factor_of x) k ≡ to_bits binary64 (mul binary64 (of_bits binary64 k) (of_bits binary64 x))
unfolding times_of
times-bits k x K h =
    let s = served x (factor_of x) refl h in
    rw (lt-ltb k 1024 K, lt-ltb (factor_of x).m (2 ^ 53) s.digits, lt-ltb 10 (factor_of x).shift s.least, lt-ltb (factor_of x).shift 64 s.most) (sym (s.product k K))

pub times-value : (k x : ℕ) → k < 1024 → 0 < (factor_of x).shift → mul binary64 (of_bits binary64 k) (of_bits binary64 x) ≡ of_bits binary64 (times_of (factor_of x) k)
times-value k x K h =
    let p = mul binary64 (of_bits binary64 k) (of_bits binary64 x) in
    sym (of_bits-to_bits binary64 p (mul-fits binary64 (of_bits binary64 k) (of_bits binary64 x))) ∙ ap (of_bits binary64) (sym (times-bits k x K h))

-- no product is above the smallest normal number, whatever the factor
pub times-low : (f : Factor) (k : ℕ) → times_of f k ≤ 2 ^ 52
unfolding times_of
times-low f k = go (ltb k 1024) (ltb f.m (2 ^ 53)) (ltb 10 f.shift) (ltb f.shift 64) (ltb→lt k 1024) (ltb→lt f.m (2 ^ 53)) (ltb→lt 10 f.shift)
  where
    go : (a b c d : Bool) → (T a → k < 1024) → (T b → f.m < 2 ^ 53) → (T c → 10 < f.shift) → cond (a && b && c && d) (closest (k * f.m) (2 ^ f.shift)) 0 ≤ 2 ^ 52
    go true true true true p q r =
        closest-low (k * f.m) (2 ^ f.shift) (2 ^ 52) (pow_pos f.shift) (lt_of_lt_of_le (exact k f.m (p tt) (q tt)) (mul-le-mul_left (2 ^ 52) (pow_mono {i = 11} {j = f.shift} (r tt))))
    go true true true false p q r = lit≤ tt
    go true true false d p q r = lit≤ tt
    go true false c d p q r = lit≤ tt
    go false b c d p q r = lit≤ tt
