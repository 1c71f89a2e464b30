-- Bit patterns without their sign: the number that each stands for in units of the format's smallest value (`ticks`), and that the next pattern stands for a larger one.
-- `ticks` goes on past the largest finite value: at the infinity's pattern it is the overflow threshold 2 ^ (emax + 1). Assumes nothing.
use mathlib.Core.Path.{◌≡◌, refl, sym, ap, ◌∙◌, subst}
use mathlib.Core.Logic.{◌⊎◌, inl, inr}
use Prim.Native.Nat.{ℕ, zero, suc, ◌+◌, ◌-◌, ◌*◌, ◌/◌, ◌%◌, ◌^◌, ◌<◌}
use native.Mathlib.Nat.{le_of_eq, le_refl, lt_of_lt_of_le, lt_irrefl, zero-add, add-zero, mul_comm, mul_assoc, suc-mul, mul-one}
use native.Mathlib.Nat.{mul-lt-mul_of_pos_right, mod-lt, mod-eq_of_lt, add-mod_left, mul-add-mod_self_left, le-add_right, pow-succ', div-add-mod'}
use native.Mathlib.Nat.{div-lt_iff_lt-mul, eq-or-lt_of_le, le_of_suc-le-suc}
use native.Mathlib.Omega.{arith}
use mathlib.Core.Bool.{Bool, true, false, not, cond}
use lib.Dec.{T, leb, eqb, not_T, eqb→eq, le→leb}
use lib.Arith.{digits_lt, digits_div, digits_mod, lt→nleb}
use lib.Pow.{pow_pos}
use lib.Ieee.{Float, nan, inf, Format, prec, emax, low, odd, hid, ones, top, of_fields, of_bits}
use lib.Ieee.Fits.{eq→eqb}
use lib.Ieee.Bits.{is_true, is_false, cond_no}
use lib.Ieee.Exact.{HasValue, odd_sign}
use Rattle.doubles.specs.Place.{inf_pat}

-- ---- the number that a pattern stands for
abbrev pub field : Format → ℕ → ℕ → ℕ
field f zero t = t
field f (suc x) t = (hid f + t) * 2 ^ x

abbrev pub ticks : Format → ℕ → ℕ
ticks f b = field f (b / hid f) (b % hid f)

pub hid-pos : (f : Format) → 0 < hid f
hid-pos f = pow_pos (prec f - 1)

pub ticks-at : (f : Format) (x t : ℕ) → t < hid f → ticks f (x * hid f + t) ≡ field f x t
ticks-at f x t h = ap (λ (z : ℕ). field f z ((x * hid f + t) % hid f)) (digits_div x h) ∙ ap (λ (z : ℕ). field f x z) (digits_mod x h)

-- ---- the next pattern stands for a larger number
within : (f : Format) (x t : ℕ) → field f x t < field f x (suc t)
within f zero t = le_refl (suc t)
within f (suc x) t = mul-lt-mul_of_pos_right (more (hid f) t) (pow_pos x)
  where
    more : (h t : ℕ) → h + t < h + suc t
    more h t = omega arith

twice : (x h t : ℕ) → suc t ≡ h → (h + t) * 2 ^ x < (h + 0) * 2 ^ suc x
twice x h t e =
    lt_of_lt_of_le (mul-lt-mul_of_pos_right (less h t e) (pow_pos x))
    (le_of_eq (mul_assoc (h + 0) 2 (2 ^ x) ∙ ap (λ (z : ℕ). (h + 0) * z) (sym (pow-succ' 2 x))))
  where
    less : (h t : ℕ) → suc t ≡ h → h + t < (h + 0) * 2
    less h t e = omega arith

across : (f : Format) (x t : ℕ) → suc t ≡ hid f → field f x t < field f (suc x) 0
across f zero t e = lt_of_lt_of_le (le_of_eq e) (le_of_eq (sym (mul-one (hid f + 0) ∙ add-zero (hid f))))
across f (suc x) t e = twice x (hid f) t e

carry : (a h t : ℕ) → suc t ≡ h → suc (a + t) ≡ a + h + 0
carry a h t e = omega arith

step-at : (f : Format) (x t : ℕ) → t < hid f → ticks f (x * hid f + t) < ticks f (suc (x * hid f + t))
step-at f x t h = go (eq-or-lt_of_le h)
  where
    suc-add' : (a b : ℕ) → suc (a + b) ≡ a + suc b
    suc-add' a b = omega arith

    go : (suc t ≡ hid f) ⊎ (suc t < hid f) → ticks f (x * hid f + t) < ticks f (suc (x * hid f + t))
    go (inl e) =
        subst (λ (z : ℕ). z < ticks f (suc (x * hid f + t))) (sym (ticks-at f x t h))
        (subst (λ (z : ℕ). field f x t < z) (sym (ap (ticks f) (carry (x * hid f) (hid f) t e ∙ ap (λ (z : ℕ). z + 0) (sym (suc-mul x (hid f)))) ∙ ticks-at f (suc x) 0 (hid-pos f))) (across f x t e))
    go (inr l) =
        subst (λ (z : ℕ). z < ticks f (suc (x * hid f + t))) (sym (ticks-at f x t h))
        (subst (λ (z : ℕ). field f x t < z) (sym (ap (ticks f) (suc-add' (x * hid f) t) ∙ ticks-at f x (suc t) l)) (within f x t))

pub ticks-step : (f : Format) (b : ℕ) → ticks f b < ticks f (suc b)
ticks-step f b = subst (λ (z : ℕ). ticks f z < ticks f (suc z)) (div-add-mod' b (hid f)) (step-at f (b / hid f) (b % hid f) (mod-lt b (hid-pos f)))

split-le : (b c : ℕ) → b < suc c → (b ≡ c) ⊎ (b < c)
split-le b c h = eq-or-lt_of_le (le_of_suc-le-suc h)

pub ticks-lt : (f : Format) (b c : ℕ) → b < c → ticks f b < ticks f c
ticks-lt f b zero h = absurd (no b h)
  where
    no : (b : ℕ) → b < 0 → ⊥
    no b h = omega arith
ticks-lt f b (suc c) h = go (split-le b c h) (ticks-lt f b c)
  where
    go : (b ≡ c) ⊎ (b < c) → (b < c → ticks f b < ticks f c) → ticks f b < ticks f (suc c)
    go (inl e) ih = subst (λ (z : ℕ). ticks f z < ticks f (suc c)) (sym e) (ticks-step f c)
    go (inr l) ih = lt_trans' (ticks f b) (ticks f c) (ticks f (suc c)) (ih l) (ticks-step f c)
      where
        lt_trans' : (x y z : ℕ) → x < y → y < z → x < z
        lt_trans' x y z p q = omega arith

pub ticks-zero : (f : Format) → ticks f 0 ≡ 0
ticks-zero f = subst (λ (z : ℕ). ticks f z ≡ 0) (zeros (hid f)) (ticks-at f 0 0 (hid-pos f))
  where
    zeros : (h : ℕ) → 0 * h + 0 ≡ 0
    zeros h = omega arith

-- ---- what is read from a pattern with a sign
of_bits_is : (f : Format) (b : ℕ) → of_bits f b ≡ of_fields f (leb (top f) b) (b % top f / hid f) (b % hid f)
unfolding of_bits
of_bits_is f b = refl

same : (f : Format) {s s' : Bool} {x x' t t' : ℕ} → s ≡ s' → x ≡ x' → t ≡ t' → of_fields f s x t ≡ of_fields f s' x' t'
same f {s} {s'} {x} {x'} {t} {t'} p q r = ap (λ (a : Bool). of_fields f a x t) p ∙ ap (λ (a : ℕ). of_fields f s' a t) q ∙ ap (λ (a : ℕ). of_fields f s' x' a) r

small : (f : Format) (x t : ℕ) → x < suc (ones f) → t < hid f → x * hid f + t < top f
small f x t X H = subst (λ (a : ℕ). x * hid f + t < a) (mul_comm (suc (ones f)) (hid f)) (digits_lt X H)

pub fields : (f : Format) (s : Bool) (x t : ℕ) → x < suc (ones f) → t < hid f → of_bits f (cond s (top f) 0 + (x * hid f + t)) ≡ of_fields f s x t
fields f true x t X H =
    of_bits_is f (top f + (x * hid f + t))
    ∙ same f (is_true (leb (top f) (top f + (x * hid f + t))) (le→leb (top f) (top f + (x * hid f + t)) (le-add_right (top f) (x * hid f + t))))
    (ap (λ (a : ℕ). a / hid f) (add-mod_left (top f) (x * hid f + t) ∙ mod-eq_of_lt (small f x t X H)) ∙ digits_div x H)
    (mul-add-mod_self_left (hid f) (suc (ones f)) (x * hid f + t) ∙ digits_mod x H)
fields f false x t X H =
    ap (λ (a : ℕ). of_bits f a) (zero-add (x * hid f + t))
    ∙ of_bits_is f (x * hid f + t)
    ∙ same f (is_false (leb (top f) (x * hid f + t)) (lt→nleb (top f) (x * hid f + t) (small f x t X H)))
    (ap (λ (a : ℕ). a / hid f) (mod-eq_of_lt (small f x t X H)) ∙ digits_div x H)
    (digits_mod x H)

ones_pos : (e : ℕ) → 0 ≡ 2 * e + 1 → ⊥
ones_pos e h = omega arith

lt→neqb : (a b : ℕ) → a < b → T (not (eqb a b))
lt→neqb a b h = not_T (eqb a b) (λ t. lt_irrefl b (subst (λ (x : ℕ). x < b) (eqb→eq a b t) h))

-- a finite pattern: its value has the sign s and is `field` units in size
fields-ticks : (f : Format) (s : Bool) (x t : ℕ) → x < ones f → HasValue (of_fields f s x t) s (field f x t) (2 ^ low f)
unfolding of_fields
fields-ticks f s zero t X = subst (λ (z : ℕ). HasValue (odd (prec f) s t 0 (low f)) s z (2 ^ low f)) (mul-one t) (odd_sign (prec f) s t 0 (low f))
fields-ticks f s (suc x) t X =
    subst (λ (v : Float). HasValue v s ((hid f + t) * 2 ^ x) (2 ^ low f))
    (sym (cond_no (eqb (suc x) (ones f)) (cond (eqb t 0) (inf s) nan) (odd (prec f) s (hid f + t) x (low f)) (lt→neqb (suc x) (ones f) X)))
    (odd_sign (prec f) s (hid f + t) x (low f))

lt-suc : (a b : ℕ) → a < b → a < suc b
lt-suc a b h = omega arith

pub bits-ticks : (f : Format) (s : Bool) (b : ℕ) → b < inf_pat f → HasValue (of_bits f (cond s (top f) 0 + b)) s (ticks f b) (2 ^ low f)
bits-ticks f s b h =
    let x = b / hid f in
    let X : x < ones f = (div-lt_iff_lt-mul (hid-pos f)).1 h in
    subst (λ (v : Float). HasValue v s (ticks f b) (2 ^ low f))
    (sym (ap (λ (z : ℕ). of_bits f (cond s (top f) 0 + z)) (sym (div-add-mod' b (hid f))) ∙ fields f s x (b % hid f) (lt-suc x (ones f) X) (mod-lt b (hid-pos f))))
    (fields-ticks f s x (b % hid f) X)

pub of_fields-ones : (f : Format) (s : Bool) (x t : ℕ) → x ≡ ones f → of_fields f s x t ≡ cond (eqb t 0) (inf s) nan
unfolding of_fields
of_fields-ones f s zero t e = absurd (ones_pos (emax f) e)
of_fields-ones f s (suc x) t e = ap (λ (b : Bool). cond b (cond (eqb t 0) (inf s) nan) (odd (prec f) s (hid f + t) x (low f))) (is_true (eqb (suc x) (ones f)) (eq→eqb e))

pub inf_bits : (f : Format) (s : Bool) → of_bits f (cond s (top f) 0 + inf_pat f) ≡ inf s
inf_bits f s =
    ap (λ (z : ℕ). of_bits f (cond s (top f) 0 + z)) (sym (add-zero (inf_pat f)))
    ∙ fields f s (ones f) 0 (le_refl (suc (ones f))) (hid-pos f)
    ∙ of_fields-ones f s (ones f) 0 refl
