-- A double without its sign. Its pattern is the double's without the sign, and patterns without signs are in the order of sizes, so that integers find the larger of two. Assumes nothing.
use mathlib.Core.Path.{◌≡◌, sym, ap, ◌∙◌, subst}
use Prim.Native.Nat.{ℕ, ◌+◌, ◌%◌, ◌≤◌, ◌<◌}
use native.Mathlib.Nat.{le_of_lt, lt_trans, not-le_of_lt, mod-eq_of_lt, add-mod_left}
use mathlib.Core.Bool.{Bool, true, false, not, cond}
use lib.IntN.{ℤ}
use lib.Dec.{T, ltb, ltb→lt, nltb→le}
use lib.Arith.{le→nltb}
use lib.Ieee.{Float, nan, inf, fin, Format, top, fits, is_nan, of_bits, to_bits, lt, neg}
use lib.Ieee.Fits.{inf-fits}
use lib.Ieee.Bits.{of_bits-to_bits}
use Rattle.doubles.specs.Neighbour.{up_from, fabs}
use Rattle.doubles.specs.Value.{Number, ◌⊑◌}
use Rattle.doubles.specs.Place.{inf_pat, mag}
use Rattle.doubles.proofs.Order.{lt_irrefl, ⊑_trans}
use Rattle.doubles.proofs.Place.{fits-plus, inf_pat<top, mag-lt, to_bits_inf, to_bits-split}
use Rattle.doubles.proofs.PlaceOrder.{lt-below}
use Rattle.doubles.proofs.Stepping.{clear-inf}
use Rattle.doubles.proofs.Symmetric.{Peak, peaks-up, farthest, farthest-peak}

-- ---- the pattern without the sign
mag-top : (f : Format) (s : Bool) (m : ℕ) (e : ℤ) → T (fits f (fin s m e)) → mag f (fin s m e) < top f
mag-top f s m e h = lt_trans (mag-lt f s m e h) (inf_pat<top f)

rest : (t b c : ℕ) → c ≡ t + b → b < t → c % t ≡ b
rest t b c e h = ap (λ (z : ℕ). z % t) e ∙ add-mod_left t b ∙ mod-eq_of_lt h

pub size-bits : (f : Format) (x : Float) → T (fits f x) → Number x → to_bits f x % top f ≡ mag f x
size-bits f nan h n = absurd (unfold is_nan in n)
size-bits f (inf true) h n = rest (top f) (inf_pat f) (to_bits f (inf true)) (to_bits_inf f) (inf_pat<top f)
size-bits f (inf false) h n = ap (λ (z : ℕ). z % top f) (clear-inf f) ∙ mod-eq_of_lt (inf_pat<top f)
size-bits f (fin true m e) h n = rest (top f) (mag f (fin true m e)) (to_bits f (fin true m e)) (to_bits-split f true m e) (mag-top f true m e h)
size-bits f (fin false m e) h n = mod-eq_of_lt (mag-top f false m e h)

-- ---- the double without the sign
pub of_size : (f : Format) (x : Float) → T (fits f x) → Number x → of_bits f (mag f x) ≡ fabs x
of_size f nan h n = absurd (unfold is_nan in n)
of_size f (inf s) h n = ap (of_bits f) (sym (clear-inf f)) ∙ of_bits-to_bits f (inf false) (inf-fits f false)
of_size f (fin s m e) h n = of_bits-to_bits f (fin false m e) (fits-plus f s m e h)

pub abs-number : (x : Float) → Number x → Number (fabs x)
unfolding is_nan
abs-number nan n = n
abs-number (inf s) n = tt
abs-number (fin s m e) n = tt

pub over-abs : (x : Float) → (x ⊑ fabs x) × (neg x ⊑ fabs x)
unfolding lt neg
over-abs nan = (tt, tt)
over-abs (inf true) = (tt, tt)
over-abs (inf false) = (tt, tt)
over-abs (fin true m e) = (tt, lt_irrefl (fin false m e))
over-abs (fin false m e) = (lt_irrefl (fin false m e), tt)

under-abs : (x m : Float) → x ⊑ m → neg x ⊑ m → fabs x ⊑ m
unfolding neg
under-abs nan m h k = h
under-abs (inf true) m h k = k
under-abs (inf false) m h k = h
under-abs (fin true n e) m h k = k
under-abs (fin false n e) m h k = h

abs-order : (f : Format) (x y : Float) → T (fits f x) → T (fits f y) → Number x → Number y → mag f x ≤ mag f y → fabs x ⊑ fabs y
unfolding lt
abs-order f nan y h k n o l = absurd (unfold is_nan in n)
abs-order f (inf s) nan h k n o l = absurd (unfold is_nan in o)
abs-order f (inf s) (inf t) h k n o l = tt
abs-order f (inf s) (fin t m e) h k n o l = absurd (not-le_of_lt (mag-lt f t m e k) l)
abs-order f (fin s m e) nan h k n o l = absurd (unfold is_nan in o)
abs-order f (fin s m e) (inf t) h k n o l = tt
abs-order f (fin s m e) (fin t n e2) h k n2 o l =
    let x = fin false m e in
    let y = fin false n e2 in
    subst (λ (b : Bool). T (not b)) (sym (lt-below f y x (fits-plus f t n e2 k) (fits-plus f s m e h) (unfold is_nan in tt) (unfold is_nan in tt))) (le→nltb (mag f y) (mag f x) l)

-- ---- the larger of two sizes by their patterns
module _ (f : Format) (p q : Float) (hp : T (fits f p)) (hq : T (fits f q)) (np : Number p) (nq : Number q) where
  abs-peak : (w : Float) → Number w → fabs p ⊑ w → fabs q ⊑ w → ((t : Float) → fabs p ⊑ t → fabs q ⊑ t → w ⊑ t) → Peak p (neg p) q (neg q) w
  abs-peak w n a b least =
      record {
        number = n;
        each = record {
          one = ⊑_trans p (fabs p) w (abs-number p np) (over-abs p).0 a;
          two = ⊑_trans (neg p) (fabs p) w (abs-number p np) (over-abs p).1 a;
          three = ⊑_trans q (fabs q) w (abs-number q nq) (over-abs q).0 b;
          four = ⊑_trans (neg q) (fabs q) w (abs-number q nq) (over-abs q).1 b;
        };
        least = λ t z. least t (under-abs p t z.one z.two) (under-abs q t z.three z.four);
      }

  stepped : (w : Float) → Peak p (neg p) q (neg q) w → up_from f w ≡ up_from f (farthest p q)
  stepped w z = peaks-up f p (neg p) q (neg q) w (farthest p q) z (farthest-peak p q np nq)

  pub up-larger : up_from f (of_bits f (cond (ltb (mag f p) (mag f q)) (mag f q) (mag f p))) ≡ up_from f (farthest p q)
  up-larger = go (ltb (mag f p) (mag f q)) (λ t. abs-order f p q hp hq np nq (le_of_lt (ltb→lt (mag f p) (mag f q) t))) (λ t. abs-order f q p hq hp nq np (nltb→le (mag f p) (mag f q) t))
    where
      go : (b : Bool) → (T b → fabs p ⊑ fabs q) → (T (not b) → fabs q ⊑ fabs p) → up_from f (of_bits f (cond b (mag f q) (mag f p))) ≡ up_from f (farthest p q)
      go true h k = ap (up_from f) (of_size f q hq nq) ∙ stepped (fabs q) (abs-peak (fabs q) (abs-number q nq) (h tt) (lt_irrefl (fabs q)) (λ t a b. b))
      go false h k = ap (up_from f) (of_size f p hp np) ∙ stepped (fabs p) (abs-peak (fabs p) (abs-number p np) (lt_irrefl (fabs p)) (k tt) (λ t a b. a))
