-- What the tests for a NaN say: the format has one NaN, and no other double differs from itself.
-- Assumes nothing.
use Rattle.std.proofs.Common.{◌≡◌, Bool, true, false, cond, not, ◌||◌, T, sym, refl, ◌∙◌, subst}
use lib.Ieee.{Float, nan, inf, fin, binary64, div, le, lt, neg, ne, is_nan, of_bits, to_bits}
use Rattle.doubles.specs.Neighbour.{up_from, down_from, next_up, next_down, fmin, fmax}
use Rattle.doubles.proofs.TestFacts.{Tn-of, ne-self}
use Rattle.interval.specs.Ops.{new_of}
use Rattle.std.specs.Prelude.{None}

pub only_nan : (x : Float) → is_nan x ≡ true → nan ≡ x
unfolding is_nan
only_nan nan e = refl
only_nan (inf s) e = cc
only_nan (fin s m d) e = cc

pub zero_by_zero : div binary64 (of_bits binary64 0) (of_bits binary64 0) ≡ nan
unfolding div of_bits
zero_by_zero = refl

-- the pattern that is written for a NaN
pub nan_pattern : (x : Float) → ne x x ≡ true → 0x7ff8_0000_0000_0000 ≡ to_bits binary64 x
unfolding to_bits
nan_pattern x e = rw (← only_nan x (sym (ne-self x) ∙ e))

pub not-nan : (x : Float) → ne x x ≡ false → T (not (is_nan x))
not-nan x e = Tn-of (is_nan x) (sym (ne-self x) ∙ e)

-- ---- the first of two, or the second where the first is a NaN: the lesser and the greater stay as they are
alike : (t : Bool) (x : Float) → cond t x x ≡ x
alike true x = refl
alike false x = refl

latter : (t : Bool) (x y : Float) → cond (t || true) x y ≡ x
latter true x y = refl
latter false x y = refl

pub min-of : (a b : Float) → fmin (cond (is_nan a) b a) b ≡ fmin a b
unfolding is_nan
min-of nan b = alike (lt b b || is_nan b) b ∙ sym (latter (lt b nan) b nan)
min-of (inf s) b = refl
min-of (fin s m d) b = refl

pub max_of : (a b : Float) → fmax (cond (is_nan a) b a) b ≡ fmax a b
unfolding is_nan
max_of nan b = alike (lt b b || is_nan b) b ∙ sym (latter (lt nan b) b nan)
max_of (inf s) b = refl
max_of (fin s m d) b = refl

-- of two NaNs there is no interval
pub no_number : (a b : Float) → is_nan (cond (is_nan a) b a) ≡ true → new_of (next_down (fmin a b)) (next_up (fmax a b)) ≡ None
unfolding new_of up_from down_from le lt neg is_nan
no_number nan nan e = refl
no_number nan (inf s) e = absurd (subst T (sym e) tt)
no_number nan (fin s m d) e = absurd (subst T (sym e) tt)
no_number (inf s) b e = absurd (subst T (sym e) tt)
no_number (fin s m d) b e = absurd (subst T (sym e) tt)

-- the interval of two numbers, as it is worked out
pub stepped : (a b x l m d u : Float)
    → x ≡ cond (is_nan a) b a → l ≡ fmin x b → d ≡ next_down l → m ≡ fmax x b → u ≡ next_up m → new_of d u ≡ new_of (next_down (fmin a b)) (next_up (fmax a b))
stepped a b x l m d u xe le de me ue = rw (de, ue, le, me, xe, min-of a b, max_of a b)
