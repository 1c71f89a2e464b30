-- The exact sum, product and quotient of two doubles lie between the doubles next to the rounded one, said over whole numbers alone. Assumes nothing.
use mathlib.Core.Path.{◌≡◌, refl, sym, ap, ap₂, ◌∙◌, subst}
use mathlib.Core.Bool.{Bool, true, false, not, cond}
use mathlib.Core.List.{[], ◌∷◌}
use Prim.Native.Nat.{ℕ, zero, suc, ◌*◌, ◌/◌, ◌^◌, pred, ◌<◌}
use native.Mathlib.Nat.{mul-pos, mul_assoc, mul_comm, mul_left_comm, zero-lt-suc, mul-div_cancel, lt_irrefl}
use lib.Pow.{pow_pos}
use lib.Dec.{T, T_not, not_T, eqb, eqb-suc-zero}
use lib.IntN.{ℤ, pos, negsuc, nat_abs, ◌+ℤ◌, ◌*ℤ◌}
use lib.Signed.{◌≤ℤ◌, lt_z, lt_z_no}
use lib.Ieee.{Float, nan, inf, fin, Format, low, up, down, round, add, mul, div, unlike, fits}
use lib.Ieee.Fits.{down_pos, up_pos, round-fits}
use lib.Ieee.Scale.{finite}
use Rattle.ring.specs.Int.{◌⊞◌, ◌⊠◌, ⊟◌, z1, den, ◌∗◌, den-mul, den-0, nonneg, nonneg-times}
use Rattle.ring.proofs.Solver.{zring, z-ring}
use Rattle.exact.specs.Rational.{ℚ, frac, ◌+q◌, ◌*q◌, ◌≤q◌}
use Rattle.exact.proofs.Laws.{frac-eq, frac-add, frac-mul}
use Rattle.exact.proofs.Field.{≤-refl, frac-le}
use Rattle.doubles.specs.Value.{signed, ratio, val, Lower, Upper}
use Rattle.doubles.specs.Neighbour.{up_from, down_from}
use Rattle.doubles.specs.Place.{mag}
use Rattle.doubles.specs.Scaled.{scaled, Between}
use Rattle.doubles.proofs.Value.{below-yes, signed_mul, signed-times, den-pred, val_is}
use Rattle.doubles.proofs.Order.{lt_irrefl as below-itself}
use Rattle.doubles.proofs.Pattern.{ticks, ticks-zero}
use Rattle.doubles.proofs.Place.{units_of, mag-zero}
use Rattle.doubles.proofs.PlaceOrder.{lt_z-signed}
use Rattle.doubles.proofs.Neighbour.{up_fits, down_fits}
use Rattle.doubles.proofs.Sums.{Rounded, add-rounded, mul-rounded, rounded-lower, rounded-upper, rounded-number}

-- ---- the whole number of a double

-- ±n over the denominator d
over : (s : Bool) (n d : ℕ) → 0 < d → signed s n ⊠ den (pred d) ≡ signed s (n * d)
over s n d h = ap (λ (z : ℤ). signed s n ⊠ z) (den-pred d h) ∙ signed-times s n d

unit-pos : (f : Format) → 0 < 2 ^ low f
unit-pos f = pow_pos (low f)

module _ (f : Format) (s : Bool) (m : ℕ) (e : ℤ) (h : T (fits f (fin s m e))) where
  -- nothing is lost where the format holds the double
  pub scaled_exact : m * up e * 2 ^ low f ≡ ticks f (mag f (fin s m e)) * down e
  scaled_exact = (units_of f s m e h).1

  pub scaled-is : scaled f (fin s m e) ≡ signed s (ticks f (mag f (fin s m e)))
  unfolding scaled
  scaled-is = ap (signed s) (ap (λ (z : ℕ). z / down e) scaled_exact ∙ mul-div_cancel _ (down_pos e))

  pub scaled-val : val (fin s m e) ≡ frac (scaled f (fin s m e)) (pred (2 ^ low f))
  unfolding ratio
  scaled-val =
      val_is s m e
      ∙ frac-eq _ _ _ _
      (over s (m * up e) (2 ^ low f) (unit-pos f)
      ∙ ap (signed s) scaled_exact
      ∙ sym (over s (ticks f (mag f (fin s m e))) (down e) (down_pos e))
      ∙ ap (λ (z : ℤ). z ⊠ den (pred (down e))) (sym scaled-is))

-- ---- the order of fractions, by whole numbers

less : (a b : ℤ) → T (lt_z b a) → T (not (nonneg (b ⊞ ⊟ a)))
less (pos a) (pos b) t = below-yes false b false a t
less (pos a) (negsuc b) t = below-yes true (suc b) false a (subst T (lt_z-signed true (suc b) false a) t)
less (negsuc a) (pos b) t = absurd t
less (negsuc a) (negsuc b) t = below-yes true (suc b) true (suc a) (subst T (lt_z-signed true (suc b) true (suc a)) t)

nonneg-le : (a b : ℤ) → T (nonneg (b ⊞ ⊟ a)) → a ≤ℤ b
nonneg-le a b h = lt_z_no (not_T (lt_z b a) (λ t. T_not (nonneg (b ⊞ ⊟ a)) (less a b t) h))

-- a unit is left out on both sides
unit-under : (a n : ℤ) (d l : ℕ) → frac a l ≤q frac n (d ∗ l) → (a ⊠ den d) ≤ℤ n
unit-under a n d l h =
    nonneg-le (a ⊠ den d) n
    (subst T (ap nonneg (ap (λ (z : ℤ). n ⊠ den l ⊞ ⊟ a ⊠ z) (den-mul d l) ∙ out a n (den d) (den l)) ∙ nonneg-times (n ⊞ ⊟ (a ⊠ den d)) l) ((frac-le a l n (d ∗ l)).1 h))
  where
    out : (a n d l : ℤ) → n ⊠ l ⊞ ⊟ a ⊠ (d ⊠ l) ≡ (n ⊞ ⊟ (a ⊠ d)) ⊠ l
    out a n d l = z-ring (a ∷ n ∷ d ∷ l ∷ []) (search zring depth 20) tt

unit-over : (a n : ℤ) (d l : ℕ) → frac n (d ∗ l) ≤q frac a l → n ≤ℤ (a ⊠ den d)
unit-over a n d l h =
    nonneg-le n (a ⊠ den d)
    (subst T (ap nonneg (ap (λ (z : ℤ). a ⊠ z ⊞ ⊟ n ⊠ den l) (den-mul d l) ∙ out a n (den d) (den l)) ∙ nonneg-times (a ⊠ den d ⊞ ⊟ n) l) ((frac-le n (d ∗ l) a l).1 h))
  where
    out : (a n d l : ℤ) → a ⊠ (d ⊠ l) ⊞ ⊟ n ⊠ l ≡ (a ⊠ d ⊞ ⊟ n) ⊠ l
    out a n d l = z-ring (a ∷ n ∷ d ∷ l ∷ []) (search zring depth 20) tt

-- ---- THE LEMMA: what is rounded lies between the doubles next to the rounding

-- the fraction n / d of the unit
abbrev Of : Format → ℤ → ℕ → ℚ
Of f n d = frac n (pred d ∗ pred (2 ^ low f))

module _ (f : Format) (n : ℤ) (d : ℕ) (D : 0 < d) where
  low_end : (x : Float) → T (fits f x) → Lower x (Of f n d) → T (finite x) → (scaled f x *ℤ pos d) ≤ℤ n
  unfolding ◌⊠◌
  low_end nan h l t = absurd t
  low_end (inf s) h l t = absurd t
  low_end (fin s m e) h l t =
      subst (λ (z : ℤ). (scaled f (fin s m e) ⊠ z) ≤ℤ n) (den-pred d D)
      (unit-under (scaled f (fin s m e)) n (pred d) (pred (2 ^ low f)) (subst (λ (q : ℚ). q ≤q Of f n d) (scaled-val f s m e h) l))

  high_end : (x : Float) → T (fits f x) → Upper x (Of f n d) → T (finite x) → n ≤ℤ (scaled f x *ℤ pos d)
  unfolding ◌⊠◌
  high_end nan h l t = absurd t
  high_end (inf s) h l t = absurd t
  high_end (fin s m e) h l t =
      subst (λ (z : ℤ). n ≤ℤ (scaled f (fin s m e) ⊠ z)) (den-pred d D)
      (unit-over (scaled f (fin s m e)) n (pred d) (pred (2 ^ low f)) (subst (λ (q : ℚ). Of f n d ≤q q) (scaled-val f s m e h) l))

  between : (r : Float) → Rounded f r (Of f n d) → Between f r n d
  between r z =
      let h : T (fits f r) = subst (λ (v : Float). T (fits f v)) (sym z.made) (round-fits f z.sign z.num z.den) in
      let k = rounded-number f z in
      record {
        low = low_end (down_from f r) (down_fits f r h) (rounded-lower f z r h k (below-itself r) (≤-refl _));
        high = high_end (up_from f r) (up_fits f r h) (rounded-upper f z r h k (below-itself r) (≤-refl _));
      }

-- any fraction ±num / den
pub round-between : (f : Format) (s : Bool) (num d : ℕ) → 0 < d → Between f (round f s num d) (signed s (num * 2 ^ low f)) d
unfolding ratio
round-between f s num d D =
    between f (signed s (num * 2 ^ low f)) d D (round f s num d)
    (record {
      sign = s;
      num = num;
      den = d;
      proper = D;
      made = refl;
      worth =
          frac-eq
          _ _ _ _
          (ap (λ (z : ℤ). signed s num ⊠ z) (den-mul (pred d) (pred (2 ^ low f)))
          ∙ turn (signed s num) (den (pred d)) (den (pred (2 ^ low f)))
          ∙ ap (λ (z : ℤ). z ⊠ den (pred d)) (over s num (2 ^ low f) (unit-pos f)));
    })
  where
    turn : (a d l : ℤ) → a ⊠ (d ⊠ l) ≡ a ⊠ l ⊠ d
    turn a d l = z-ring (a ∷ d ∷ l ∷ []) (search zring depth 20) tt

worth-by : {f : Format} {r : Float} {p q : ℚ} → p ≡ q → Rounded f r p → Rounded f r q
worth-by e z = record { sign = z.sign; num = z.num; den = z.den; proper = z.proper; made = z.made; worth = z.worth ∙ e }

-- ---- what / rounds

size_of : (s : Bool) (n : ℕ) → nat_abs (signed s n) ≡ n
size_of false n = refl
size_of true zero = refl
size_of true (suc n) = refl

cross : (a b dd de j k l : ℕ) → a * l ≡ k * de → b * l ≡ j * dd → a * dd * (j * l) ≡ k * l * (b * de)
cross a b dd de j k l h g = left ∙ ap₂ (λ (x y : ℕ). x * y) h (sym g) ∙ right
  where
    left : a * dd * (j * l) ≡ a * l * (j * dd)
    left = simp (mul_assoc, mul_comm, mul_left_comm)

    right : k * de * (b * l) ≡ k * l * (b * de)
    right = simp (mul_assoc, mul_comm, mul_left_comm)

module _ (f : Format) (s : Bool) (m : ℕ) (e : ℤ) (t : Bool) (n : ℕ) (d : ℤ) (hx : T (fits f (fin s m e))) (hy : T (fits f (fin t (suc n) d))) where
  abbrev k : ℕ
  k = ticks f (mag f (fin s m e))

  abbrev j : ℕ
  j = ticks f (mag f (fin t (suc n) d))

  abbrev L : ℕ
  L = 2 ^ low f

  quotient : 0 < j → ratio (unlike s t) (m * up e * down d) (suc n * up d * down e) ≡ Of f (signed s k ⊠ signed t L) j
  unfolding ratio
  quotient J =
      frac-eq _ _ _ _
      (ap (λ (z : ℤ). signed (unlike s t) (m * up e * down d) ⊠ z) (den-mul (pred j) (pred L) ∙ ap (λ (z : ℤ). z ⊠ den (pred L)) (den-pred j J) ∙ over false j L (unit-pos f))
      ∙ signed-times (unlike s t) (m * up e * down d) (j * L)
      ∙ ap (signed (unlike s t)) (cross (m * up e) (suc n * up d) (down d) (down e) j k L (scaled_exact f s m e hx) (scaled_exact f t (suc n) d hy))
      ∙ sym
      (ap (λ (z : ℤ). z ⊠ den (pred (suc n * up d * down e))) (signed_mul s k t L) ∙ over (unlike s t) (k * L) (suc n * up d * down e) (mul-pos (mul-pos (zero-lt-suc n) (up_pos d)) (down_pos e))))

  div-rounded : 0 < j → Rounded f (div f (fin s m e) (fin t (suc n) d)) (Of f (signed s k ⊠ signed t L) j)
  unfolding div
  div-rounded J =
      record {
        sign = unlike s t;
        num = m * up e * down d;
        den = suc n * up d * down e;
        proper = mul-pos (mul-pos (zero-lt-suc n) (up_pos d)) (down_pos e);
        made = ap (λ (b : Bool). cond b (cond (eqb m 0) nan (inf (unlike s t))) (round f (unlike s t) (m * up e * down d) (suc n * up d * down e))) (eqb-suc-zero n);
        worth = quotient J;
      }

-- ---- the three operations

module _ (f : Format) (s : Bool) (m : ℕ) (e : ℤ) (t : Bool) (n : ℕ) (d : ℤ) (hx : T (fits f (fin s m e))) (hy : T (fits f (fin t n d))) where
  abbrev x : Float
  x = fin s m e

  abbrev y : Float
  y = fin t n d

  abbrev l : ℕ
  l = pred (2 ^ low f)

  pub add-between : Between f (add f x y) (scaled f x +ℤ scaled f y) 1
  unfolding ◌⊞◌
  add-between =
      between f (scaled f x ⊞ scaled f y) 1 (zero-lt-suc 0) (add f x y)
      (worth-by (ap₂ ◌+q◌ (scaled-val f s m e hx) (scaled-val f t n d hy) ∙ frac-add (scaled f x) l (scaled f y) l
      ∙ frac-eq _ _ _ _ (rw (den-mul l l, den-mul 0 l, den-0) (one (scaled f x) (scaled f y) (den l))))
      (add-rounded f s m e t n d))
    where
      one : (a b l : ℤ) → (a ⊠ l ⊞ b ⊠ l) ⊠ (z1 ⊠ l) ≡ (a ⊞ b) ⊠ (l ⊠ l)
      one a b l = z-ring (a ∷ b ∷ l ∷ []) (search zring depth 20) tt

  pub mul-between : Between f (mul f x y) (scaled f x *ℤ scaled f y) (2 ^ low f)
  unfolding ◌⊠◌
  mul-between =
      between f (scaled f x ⊠ scaled f y) (2 ^ low f) (unit-pos f) (mul f x y)
      (worth-by (ap₂ ◌*q◌ (scaled-val f s m e hx) (scaled-val f t n d hy) ∙ frac-mul (scaled f x) l (scaled f y) l) (mul-rounded f s m e t n d))

  -- the sign of y goes over to x, so that the denominator is above 0
  pub div-between : 0 < nat_abs (scaled f y) → Between f (div f x y) (scaled f x *ℤ signed t (2 ^ low f)) (nat_abs (scaled f y))
  unfolding ◌⊠◌
  div-between p =
      let c = ap nat_abs (scaled-is f t n d hy) ∙ size_of t (ticks f (mag f y)) in
      let J : 0 < ticks f (mag f y) = subst (λ (z : ℕ). 0 < z) c p in
      subst (Between f (div f x y) (scaled f x ⊠ signed t (2 ^ low f))) (sym c)
      (subst (λ (z : ℤ). Between f (div f x y) (z ⊠ signed t (2 ^ low f)) (ticks f (mag f y))) (sym (scaled-is f s m e hx)) (go n hy J))
    where
      go : (n : ℕ) (hy : T (fits f (fin t n d))) → 0 < ticks f (mag f (fin t n d)) → Between f (div f x (fin t n d)) (signed s (ticks f (mag f x)) ⊠ signed t (2 ^ low f)) (ticks f (mag f (fin t n d)))
      go zero h J = absurd (lt_irrefl 0 (subst (λ (z : ℕ). 0 < z) (ap (ticks f) (mag-zero f t d) ∙ ticks-zero f) J))
      go (suc n) h J = between f _ _ J _ (div-rounded f s m e t n d hx h J)
