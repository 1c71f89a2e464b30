-- `next_up` by the tests that a program makes of the pattern alone: is it the sign by itself, is it the infinity's, is its sign clear. Assumes nothing.
use mathlib.Core.Path.{◌≡◌, refl, sym, ap, ◌∙◌}
use Prim.Native.Nat.{ℕ, zero, suc, ◌+◌, ◌-◌, ◌≤◌, ◌<◌}
use native.Mathlib.Nat.{le_of_eq, le_of_lt, zero-add, add-zero}
use native.Mathlib.Omega.{arith}
use mathlib.Core.Bool.{true, false}
use lib.IntN.{ℤ}
use lib.Dec.{T}
use lib.Ieee.{Float, nan, inf, fin, Format, top, fits, is_nan, of_bits, to_bits, lt, neg}
use lib.Ieee.Bits.{is_false}
use lib.Ieee.Fits.{neg-fits}
use Rattle.doubles.specs.Neighbour.{up_from, down_from}
use Rattle.doubles.specs.Value.{Number}
use Rattle.doubles.specs.Place.{inf_pat, mag}
use Rattle.doubles.proofs.Neighbour.{neg-nan}
use Rattle.doubles.proofs.Place.{inf_pat<top, inf_pat-pos, mag-lt, mag-pos, mag-zero, to_bits_inf, to_bits-split, up-number}

-- ---- a pattern is the sign's weight t, where the sign is set, and the rest b
set_below : (t b c : ℕ) → c ≡ t + b → c < t → ⊥
set_below t b c e h = omega arith

set-alone : (t b c : ℕ) → c ≡ t + b → 0 < b → c ≡ t → ⊥
set-alone t b c e h k = omega arith

clear_above : (i t b : ℕ) → b ≤ i → i < t → t ≤ b → ⊥
clear_above i t b h k l = omega arith

differs : (a b : ℕ) → a < b → a ≡ b → ⊥
differs a b h e = omega arith

pub clear-inf : (f : Format) → to_bits f (inf false) ≡ inf_pat f
unfolding to_bits
clear-inf f = zero-add (inf_pat f)

clear-le : (f : Format) (m : ℕ) (d : ℤ) → T (fits f (fin false m d)) → to_bits f (fin false m d) ≤ inf_pat f
clear-le f m d h = le_of_lt (mag-lt f false m d h)

-- ---- the four ways
module _ (f : Format) where
  -- the sign alone is the pattern of -0.0
  pub up-at-sign : (x : Float) → T (fits f x) → Number x → to_bits f x ≡ top f → up_from f x ≡ of_bits f 1
  unfolding up_from is_nan
  up-at-sign nan h n e = absurd n
  up-at-sign (inf true) h n e = absurd (set-alone (top f) (inf_pat f) (to_bits f (inf true)) (to_bits_inf f) (inf_pat-pos f) e)
  up-at-sign (inf false) h n e = absurd (clear_above (inf_pat f) (top f) (to_bits f (inf false)) (le_of_eq (clear-inf f)) (inf_pat<top f) (le_of_eq (sym e)))
  up-at-sign (fin s zero d) h n e = refl
  up-at-sign (fin true (suc m) d) h n e = absurd (set-alone (top f) (mag f (fin true (suc m) d)) (to_bits f (fin true (suc m) d)) (to_bits-split f true (suc m) d) (mag-pos f true m d h) e)
  up-at-sign (fin false (suc m) d) h n e = absurd (clear_above (inf_pat f) (top f) (to_bits f (fin false (suc m) d)) (clear-le f (suc m) d h) (inf_pat<top f) (le_of_eq (sym e)))

  pub up-at-top : (x : Float) → T (fits f x) → Number x → to_bits f x ≡ inf_pat f → up_from f x ≡ x
  unfolding up_from is_nan
  up-at-top nan h n e = absurd n
  up-at-top (inf true) h n e = absurd (set_below (top f) (inf_pat f) (inf_pat f) (sym e ∙ to_bits_inf f) (inf_pat<top f))
  up-at-top (inf false) h n e = refl
  up-at-top (fin true m d) h n e = absurd (set_below (top f) (mag f (fin true m d)) (inf_pat f) (sym e ∙ to_bits-split f true m d) (inf_pat<top f))
  up-at-top (fin false m d) h n e = absurd (differs (to_bits f (fin false m d)) (inf_pat f) (mag-lt f false m d h) e)

  pub up-clear : (x : Float) → T (fits f x) → Number x → to_bits f x < top f → (to_bits f x ≡ inf_pat f → ⊥) → up_from f x ≡ of_bits f (to_bits f x + 1)
  unfolding up_from is_nan
  up-clear nan h n l e = absurd n
  up-clear (inf true) h n l e = absurd (set_below (top f) (inf_pat f) (to_bits f (inf true)) (to_bits_inf f) l)
  up-clear (inf false) h n l e = absurd (e (clear-inf f))
  up-clear (fin true m d) h n l e = absurd (set_below (top f) (mag f (fin true m d)) (to_bits f (fin true m d)) (to_bits-split f true m d) l)
  up-clear (fin false zero d) h n l e = ap (λ (b : ℕ). of_bits f (b + 1)) (sym (mag-zero f false d))
  up-clear (fin false (suc m) d) h n l e = refl

  pub up-set : (x : Float) → T (fits f x) → Number x → top f ≤ to_bits f x → (to_bits f x ≡ top f → ⊥) → up_from f x ≡ of_bits f (to_bits f x - 1)
  unfolding up_from is_nan
  up-set nan h n l e = absurd n
  up-set (inf true) h n l e = refl
  up-set (inf false) h n l e = absurd (clear_above (inf_pat f) (top f) (to_bits f (inf false)) (le_of_eq (clear-inf f)) (inf_pat<top f) l)
  up-set (fin true zero d) h n l e = absurd (e (to_bits-split f true 0 d ∙ ap (λ (b : ℕ). top f + b) (mag-zero f true d) ∙ add-zero (top f)))
  up-set (fin true (suc m) d) h n l e = refl
  up-set (fin false m d) h n l e = absurd (clear_above (inf_pat f) (top f) (to_bits f (fin false m d)) (clear-le f m d h) (inf_pat<top f) l)

-- a step makes no NaN
pub up-nan : (f : Format) (x : Float) → T (fits f x) → is_nan (up_from f x) ≡ is_nan x
up-nan f nan h = unfold up_from in refl
up-nan f (inf true) h = is_false (is_nan (up_from f (inf true))) (up-number f (inf true) h (unfold lt in tt)) ∙ unfold is_nan in refl
up-nan f (inf false) h = unfold up_from in refl
up-nan f (fin s m e) h = is_false (is_nan (up_from f (fin s m e))) (up-number f (fin s m e) h (unfold lt in tt)) ∙ unfold is_nan in refl

pub down-nan : (f : Format) (x : Float) → T (fits f x) → is_nan (down_from f x) ≡ is_nan x
unfolding down_from
down-nan f x h = neg-nan (up_from f (neg x)) ∙ up-nan f (neg x) (neg-fits f x h) ∙ neg-nan x
