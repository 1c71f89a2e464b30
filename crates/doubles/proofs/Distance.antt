-- Places as patterns of 64 bits, and their distance by a subtraction that wraps. Assumes nothing.
use mathlib.Core.Path.{◌≡◌, refl, sym, ap, ◌∙◌, subst}
use Prim.Native.Nat.{ℕ, zero, suc, ◌+◌, ◌-◌, ◌%◌, ◌≤◌, ◌<◌, zero-le}
use native.Mathlib.Nat.{le_refl, le_of_lt, lt_of_le_of_lt, zero-add}
use native.Mathlib.Omega.{arith}
use mathlib.Core.Bool.{Bool, true, false, not, cond}
use lib.IntN.{ℤ, pos, negsuc, neg_ℤ, nat_abs, sub_ℕ, ◌-ℤ◌}
use lib.Signed.{lt_z}
use lib.Dec.{T, ltb, nltb→le, lit<}
use lib.Arith.{le→nltb}
use lib.Ieee.{Float, nan, inf, fin, Format, binary64, fits, is_nan, le, to_bits, top}
use lib.Ieee.Bits.{is_false}
use Rattle.doubles.specs.Value.{signed, Number}
use Rattle.doubles.specs.Place.{sign_bit, inf_pat, mag, place, wrapped}
use Rattle.doubles.proofs.Place.{mag-lt, to_bits-split}
use Rattle.doubles.proofs.PlaceOrder.{lt-place}
use Rattle.doubles.proofs.Order.{le_not}

-- ---- a number's pattern is its sign's weight and its size's pattern
pub bits-split : (f : Format) (x : Float) → Number x → to_bits f x ≡ cond (sign_bit x) (top f) 0 + mag f x
unfolding is_nan
bits-split f nan n = absurd n
bits-split f (inf s) n = unfold to_bits in refl
bits-split f (fin s m e) n = to_bits-split f s m e

pub mag-le : (f : Format) (x : Float) → T (fits f x) → mag f x ≤ inf_pat f
mag-le f nan h = zero-le
mag-le f (inf s) h = le_refl (inf_pat f)
mag-le f (fin s m e) h = le_of_lt (mag-lt f s m e h)

pub mag-small : (x : Float) → T (fits binary64 x) → mag binary64 x < 9223372036854775808
mag-small x h = lt_of_le_of_lt (mag-le binary64 x h) (lit< tt)

-- by whether the pattern is below the sign's weight
pub place-low : (x : Float) → Number x → to_bits binary64 x < 9223372036854775808 → pos (to_bits binary64 x) ≡ place binary64 x
place-low x n h = go (sign_bit x) (bits-split binary64 x n)
  where
    no : (a b : ℕ) → a ≡ 9223372036854775808 + b → a < 9223372036854775808 → ⊥
    no a b e h = omega arith

    go : (s : Bool) → to_bits binary64 x ≡ cond s (top binary64) 0 + mag binary64 x → pos (to_bits binary64 x) ≡ signed s (mag binary64 x)
    go true e = absurd (no (to_bits binary64 x) (mag binary64 x) e h)
    go false e = ap pos (e ∙ zero-add (mag binary64 x))

pub place-high : (x : Float) → T (fits binary64 x) → Number x → 9223372036854775808 ≤ to_bits binary64 x
    → (to_bits binary64 x - 9223372036854775808 ≡ mag binary64 x) × (neg_ℤ (pos (mag binary64 x)) ≡ place binary64 x)
place-high x f n h = go (sign_bit x) (bits-split binary64 x n)
  where
    no : (a b : ℕ) → a ≡ 0 + b → 9223372036854775808 ≤ a → b < 9223372036854775808 → ⊥
    no a b e h k = omega arith

    off : (a b : ℕ) → a ≡ 9223372036854775808 + b → a - 9223372036854775808 ≡ b
    off a b e = omega arith

    go : (s : Bool) → to_bits binary64 x ≡ cond s (top binary64) 0 + mag binary64 x
        → (to_bits binary64 x - 9223372036854775808 ≡ mag binary64 x) × (neg_ℤ (pos (mag binary64 x)) ≡ signed s (mag binary64 x))
    go true e = (off (to_bits binary64 x) (mag binary64 x) e, refl)
    go false e = absurd (no (to_bits binary64 x) (mag binary64 x) e h (mag-small x f))

-- ---- the place of a double is a small number
abs-signed : (s : Bool) (n : ℕ) → nat_abs (signed s n) ≡ n
abs-signed false n = refl
abs-signed true zero = refl
abs-signed true (suc n) = refl

pub place-small : (x : Float) → T (fits binary64 x) → nat_abs (place binary64 x) < 9223372036854775808
place-small x h = subst (λ (n : ℕ). n < 9223372036854775808) (sym (abs-signed (sign_bit x) (mag binary64 x))) (mag-small x h)

-- ---- a wrapped difference
sub-large : (a b : ℕ) → b ≤ a → sub_ℕ a b ≡ pos (a - b)
sub-large a b h = ap (λ (t : Bool). cond t (negsuc (b - suc a)) (pos (a - b))) (is_false (ltb a b) (le→nltb a b h))

-- a wrapped difference is the true one, where it is not negative and both are small
pub distance : (r : ℕ) (a b : ℤ) → r < 18446744073709551616 → nat_abs a < 9223372036854775808 → nat_abs b < 9223372036854775808 → T (not (lt_z a b)) → (r + wrapped b) % 18446744073709551616 ≡ wrapped a
    → pos r ≡ a -ℤ b
distance r (pos a) (pos zero) R A B h e = ap pos (go r a R A e)
  where
    go : (r a : ℕ) → r < 18446744073709551616 → a < 9223372036854775808 → (r + 0) % 18446744073709551616 ≡ a → r ≡ a + 0
    go r a R A e = omega arith
distance r (pos a) (pos (suc b)) R A B h e = ap pos (go r a b R A B (nltb→le a (suc b) h) e) ∙ sym (sub-large a (suc b) (nltb→le a (suc b) h))
  where
    go : (r a b : ℕ) → r < 18446744073709551616 → a < 9223372036854775808 → suc b < 9223372036854775808 → suc b ≤ a → (r + suc b) % 18446744073709551616 ≡ a → r ≡ a - suc b
    go r a b R A B h e = omega arith
distance r (pos a) (negsuc b) R A B h e = ap pos (go r a b R A B e)
  where
    go : (r a b : ℕ) → r < 18446744073709551616 → a < 9223372036854775808 → suc b < 9223372036854775808 → (r + (18446744073709551616 - suc b)) % 18446744073709551616 ≡ a → r ≡ a + suc b
    go r a b R A B e = omega arith
distance r (negsuc a) (pos b) R A B h e = absurd h
distance r (negsuc a) (negsuc b) R A B h e = ap pos (go r a b R A B (nltb→le b a h) e) ∙ sym (sub-large (suc b) (suc a) (up a b (nltb→le b a h)))
  where
    up : (a b : ℕ) → a ≤ b → suc a ≤ suc b
    up a b h = omega arith

    go : (r a b : ℕ) → r < 18446744073709551616 → suc a < 9223372036854775808 → suc b < 9223372036854775808 → a ≤ b
        → (r + (18446744073709551616 - suc b)) % 18446744073709551616 ≡ 18446744073709551616 - suc a → r ≡ suc b - suc a
    go r a b R A B h e = omega arith

pub order : (lo hi : Float) → T (fits binary64 lo) → T (fits binary64 hi) → Number lo → Number hi → T (le lo hi) → T (not (lt_z (place binary64 hi) (place binary64 lo)))
order lo hi h k n m l = subst (λ (t : Bool). T (not t)) (lt-place binary64 hi lo k h m n) (le_not lo hi l)
