-- `next_up x` is the least double above x, and `next_down x` the greatest below: nothing that the format holds lies strictly between. Assumes nothing.
use mathlib.Core.Path.{◌≡◌, refl, sym, ap, ◌∙◌, subst}
use Prim.Native.Nat.{ℕ, zero, suc, ◌+◌, ◌-◌, ◌*◌, ◌<◌}
use native.Mathlib.Nat.{le_refl, add_comm}
use native.Mathlib.Omega.{arith}
use mathlib.Core.Bool.{Bool, true, false, not}
use lib.IntN.{ℤ, pos, negsuc, neg_ℤ, suc_ℤ, pred_ℤ, neg_ℤ-neg_ℤ, neg_ℤ-suc_ℤ}
use lib.Signed.{lt_z}
use lib.Dec.{T, ltb, ltb→lt, lt→ltb}
use lib.Ieee.{Float, nan, inf, fin, Format, up, down, fits, is_nan, to_bits, lt, below, neg}
use lib.Ieee.Fits.{neg-fits}
use lib.Ieee.Bits.{of_bits-fits}
use Rattle.doubles.specs.Neighbour.{up_from, down_from}
use Rattle.doubles.proofs.TestFacts.{neg-neg}
use Rattle.doubles.proofs.Order.{lt-left, lt-right, lt-top}
use Rattle.doubles.specs.Place.{mag, place}
use Rattle.doubles.proofs.Place.{up-place, up-number}
use Rattle.doubles.proofs.PlaceOrder.{lt-place}

-- ---- whole numbers
below_suc : (z : ℤ) → T (lt_z z (suc_ℤ z))
below_suc (pos n) = lt→ltb n (suc n) (le_refl (suc n))
below_suc (negsuc zero) = tt
below_suc (negsuc (suc n)) = lt→ltb n (suc n) (le_refl (suc n))

none_between : (a b : ℤ) → T (lt_z a b) → T (lt_z b (suc_ℤ a)) → ⊥
none_between (pos a) (pos b) h k = go a b (ltb→lt a b h) (ltb→lt b (suc a) k)
  where
    go : (a b : ℕ) → a < b → b < suc a → ⊥
    go a b h k = omega arith
none_between (pos a) (negsuc b) h k = h
none_between (negsuc zero) (pos b) h k = go b (ltb→lt b 0 k)
  where
    go : (b : ℕ) → b < 0 → ⊥
    go b k = omega arith
none_between (negsuc (suc a)) (pos b) h k = k
none_between (negsuc zero) (negsuc b) h k = go b (ltb→lt b 0 h)
  where
    go : (b : ℕ) → b < 0 → ⊥
    go b k = omega arith
none_between (negsuc (suc a)) (negsuc b) h k = go a b (ltb→lt b (suc a) h) (ltb→lt a b k)
  where
    go : (a b : ℕ) → b < suc a → a < b → ⊥
    go a b h k = omega arith

-- ---- the next double is a double, and no NaN
pub up_fits : (f : Format) (x : Float) → T (fits f x) → T (fits f (up_from f x))
unfolding up_from
up_fits f nan h = h
up_fits f (inf true) h = of_bits-fits f (to_bits f (inf true) - 1)
up_fits f (inf false) h = h
up_fits f (fin s zero e) h = of_bits-fits f 1
up_fits f (fin true (suc m) e) h = of_bits-fits f (to_bits f (fin true (suc m) e) - 1)
up_fits f (fin false (suc m) e) h = of_bits-fits f (to_bits f (fin false (suc m) e) + 1)

pub down_fits : (f : Format) (x : Float) → T (fits f x) → T (fits f (down_from f x))
unfolding down_from
down_fits f x h = neg-fits f (up_from f (neg x)) (up_fits f (neg x) (neg-fits f x h))

-- ---- up: above x, and nothing between
pub up_above : (f : Format) (x : Float) → T (fits f x) → T (lt x (inf false)) → T (lt x (up_from f x))
up_above f x h l =
    subst T (sym (lt-place f x (up_from f x) h (up_fits f x h) (lt-left x (inf false) l) (up-number f x h l) ∙ ap (lt_z (place f x)) (up-place f x h l))) (below_suc (place f x))

pub up_least : (f : Format) (x y : Float) → T (fits f x) → T (fits f y) → T (lt x y) → T (lt y (up_from f x)) → ⊥
up_least f x y h k a b =
    let l = lt-top x y a in
    none_between (place f x) (place f y)
    (subst T (lt-place f x y h k (lt-left x y a) (lt-right x y a)) a)
    (subst T (lt-place f y (up_from f x) k (up_fits f x h) (lt-right x y a) (up-number f x h l) ∙ ap (lt_z (place f y)) (up-place f x h l)) b)

-- ---- the mirror: everything said of up holds of down
below-not : (s : Bool) (a : ℕ) (t : Bool) (b : ℕ) → below (not s) a (not t) b ≡ below t b s a
below-not true a true b = refl
below-not true a false b = refl
below-not false a true b = ap (ltb 0) (add_comm a b)
below-not false a false b = refl

pub neg-lt : (x y : Float) → lt (neg x) (neg y) ≡ lt y x
unfolding neg lt
neg-lt nan nan = refl
neg-lt nan (inf t) = refl
neg-lt nan (fin t n d) = refl
neg-lt (inf s) nan = refl
neg-lt (inf true) (inf true) = refl
neg-lt (inf true) (inf false) = refl
neg-lt (inf false) (inf true) = refl
neg-lt (inf false) (inf false) = refl
neg-lt (inf true) (fin t n d) = refl
neg-lt (inf false) (fin t n d) = refl
neg-lt (fin s m e) nan = refl
neg-lt (fin s m e) (inf true) = refl
neg-lt (fin s m e) (inf false) = refl
neg-lt (fin s m e) (fin t n d) = below-not s (m * up e * down d) t (n * up d * down e)

neg-place : (f : Format) (x : Float) → place f (neg x) ≡ neg_ℤ (place f x)
unfolding neg
neg-place f nan = refl
neg-place f (inf true) = sym (neg_ℤ-neg_ℤ (pos (mag f (inf true))))
neg-place f (inf false) = refl
neg-place f (fin true m e) = sym (neg_ℤ-neg_ℤ (pos (mag f (fin true m e))))
neg-place f (fin false m e) = refl

pub neg-nan : (x : Float) → is_nan (neg x) ≡ is_nan x
unfolding neg is_nan
neg-nan nan = refl
neg-nan (inf s) = refl
neg-nan (fin s m e) = refl

neg_low : neg (inf true) ≡ inf false
unfolding neg
neg_low = refl

-- -∞ < x makes -x < ∞
turned : (x : Float) → T (lt (inf true) x) → T (lt (neg x) (inf false))
turned x l = subst T (sym (ap (lt (neg x)) (sym neg_low) ∙ neg-lt x (inf true))) l

pub down-place : (f : Format) (x : Float) → T (fits f x) → T (lt (inf true) x) → place f (down_from f x) ≡ pred_ℤ (place f x)
unfolding down_from
down-place f x h l =
    neg-place f (up_from f (neg x)) ∙ ap neg_ℤ (up-place f (neg x) (neg-fits f x h) (turned x l)) ∙ neg_ℤ-suc_ℤ (place f (neg x)) ∙ ap pred_ℤ (ap neg_ℤ (neg-place f x) ∙ neg_ℤ-neg_ℤ (place f x))

pub down-number : (f : Format) (x : Float) → T (fits f x) → T (lt (inf true) x) → T (not (is_nan (down_from f x)))
unfolding down_from
down-number f x h l = subst (λ (b : Bool). T (not b)) (sym (neg-nan (up_from f (neg x)))) (up-number f (neg x) (neg-fits f x h) (turned x l))

pub down-below : (f : Format) (x : Float) → T (fits f x) → T (lt (inf true) x) → T (lt (down_from f x) x)
unfolding down_from
down-below f x h l =
    subst (λ (v : Float). T (lt (neg (up_from f (neg x))) v)) (neg-neg x)
    (subst T (sym (neg-lt (up_from f (neg x)) (neg x))) (up_above f (neg x) (neg-fits f x h) (turned x l)))

pub down-greatest : (f : Format) (x y : Float) → T (fits f x) → T (fits f y) → T (lt y x) → T (lt (down_from f x) y) → ⊥
unfolding down_from
down-greatest f x y h k a b =
    up_least f (neg x) (neg y) (neg-fits f x h) (neg-fits f y k) (subst T (sym (neg-lt x y)) a)
    (subst T (neg-lt (up_from f (neg x)) (neg y)) (subst (λ (v : Float). T (lt (neg (up_from f (neg x))) v)) (sym (neg-neg y)) b))
