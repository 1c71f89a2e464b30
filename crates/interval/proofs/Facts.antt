-- Facts on values that the functions' proofs cite. Assumes nothing.
use Rattle.std.proofs.Common.{◌≡◌, Bool, true, false, cond, ◌||◌, T, pos, sym, refl, ap, ◌∙◌, subst}
use lib.Ieee.{Float, nan, inf, fin, binary64, of_bits, neg, lt, is_nan, fits}
use lib.Ieee.Scale.{finite}
use Rattle.doubles.proofs.Extremes.{Four}
use Rattle.doubles.proofs.Stepping.{up-nan, down-nan}
use Rattle.doubles.specs.Neighbour.{next_up, next_down}
use Rattle.interval.specs.Ops.{entire, checked_of, some_nan}

pub zero_bits : of_bits binary64 0 ≡ fin false 0 (pos 0)
unfolding of_bits
zero_bits = refl

at-inf : (x : Float) → lt (neg (inf false)) x ≡ true → lt x (inf false) ≡ finite x
unfolding lt neg
at-inf nan e = refl
at-inf (inf true) e = sym e
at-inf (inf false) e = refl
at-inf (fin s m d) e = refl

pub finite-yes : (x i : Float) → i ≡ inf false → lt (neg i) x ≡ true → lt x i ≡ finite x
finite-yes x i p e = ap (lt x) p ∙ at-inf x (ap (λ (z : Float). lt (neg z) x) (sym p) ∙ e)

at_low : (x : Float) → lt (neg (inf false)) x ≡ false → false ≡ finite x
unfolding lt neg
at_low nan e = refl
at_low (inf true) e = refl
at_low (inf false) e = refl
at_low (fin s m d) e = sym e

pub finite-no : (x i : Float) → i ≡ inf false → lt (neg i) x ≡ false → false ≡ finite x
finite-no x i p e = at_low x (ap (λ (z : Float). lt (neg z) x) (sym p) ∙ e)

-- none of four is a NaN
pub none-nan : (p q r s : Float) → some_nan p q r s ≡ false → Four (λ x. is_nan x ≡ false) p q r s
unfolding some_nan
none-nan p q r s = go (is_nan p) (is_nan q) (is_nan r) (is_nan s) (λ a b c d. record { one = a; two = b; three = c; four = d })
  where
    go : (a b c d : Bool) {A : Type 0} → (a ≡ false → b ≡ false → c ≡ false → d ≡ false → A) → (a || b || c || d) ≡ false → A
    go false false false false f e = f refl refl refl refl
    go false false false true f e = absurd (subst T e tt)
    go false false true d f e = absurd (subst T e tt)
    go false true c d f e = absurd (subst T e tt)
    go true b c d f e = absurd (subst T e tt)

-- a step outward meets a NaN where there was one before it
pub checked-out : (x y : Float) → T (fits binary64 x) → T (fits binary64 y) → checked_of (next_down x) (next_up y) ≡ cond (is_nan x || is_nan y) entire (record { lo = next_down x; hi = next_up y })
unfolding checked_of
checked-out x y h k = rw (down-nan binary64 x h, up-nan binary64 y k)
