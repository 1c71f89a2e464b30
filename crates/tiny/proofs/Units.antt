-- A product below the smallest normal number, in units of the format's smallest value: the whole number that is nearest to the exact product, which is also its pattern. Assumes nothing.
use mathlib.Core.Path.{◌≡◌, sym, ap, ◌∙◌, subst}
use mathlib.Core.Logic.{◌⊎◌, inl, inr}
use Prim.Native.Nat.{ℕ, suc, ◌+◌, ◌-◌, ◌*◌, ◌/◌, ◌%◌, ◌^◌, ◌≤◌, ◌<◌, compare}
use native.Mathlib.Nat.{zero-add, one-mul, eq-or-lt_of_le, le_trans, le_of_eq, lt_of_lt_of_le, lt_of_le_of_lt, lt_trans, add-zero, mul-one, mul_assoc, mul-pos, mul-mul-mul_comm, div-lt_iff_lt-mul, mul-lt-mul_of_pos_right}
use native.Mathlib.Omega.{arith}
use mathlib.Core.Bool.{Bool, false, not}
use lib.Dec.{T}
use lib.Pow.{pow_pos, pow-lt}
use lib.Ieee.{Float, nan, inf, fin, Format, prec, emax, low, unlike, up, down, hid, size, units, round, mul, top, is_nan, of_bits, to_bits}
use lib.Ieee.Digits.{size-le}
use lib.Ieee.Fits.{two, reach, down_pos, nearest-le, core, round_is, mul-fits}
use lib.Ieee.Bits.{of_bits-fits, to_bits-of_bits}
use lib.Ieee.Exact.{HasValue, units_val}
use lib.Ieee.Nearest.{closest, closest_same}
use lib.Ieee.Scale.{round_same}
use Rattle.doubles.specs.Place.{inf_pat}
use Rattle.doubles.proofs.Pattern.{ticks, ticks-at, hid-pos, bits-ticks}
use Rattle.doubles.proofs.Place.{inf_pat<top}
use Rattle.doubles.proofs.Own.{unique}

-- ---- a product by any fractions that the factors equal
mul-values : (f : Format) (x y : Float) (s t : Bool) (a c b d : ℕ) → 0 < c → 0 < d → HasValue x s a c → HasValue y t b d → mul f x y ≡ round f (unlike s t) (a * b) (c * d)
unfolding mul
mul-values f nan y s t a c b d C D h k = absurd h
mul-values f (inf u) y s t a c b d C D h k = absurd h
mul-values f (fin u m e) nan s t a c b d C D h k = absurd k
mul-values f (fin u m e) (inf v) s t a c b d C D h k = absurd k
mul-values f (fin u m e) (fin v n g) s t a c b d C D h k =
    ap (λ (z : Bool). round f (unlike z v) (m * up e * (n * up g)) (down e * down g)) h.0
    ∙ ap (λ (z : Bool). round f (unlike s z) (m * up e * (n * up g)) (down e * down g)) k.0
    ∙ round_same f (unlike s t) (m * up e * (n * up g)) (down e * down g) (a * b) (c * d) (mul-pos (down_pos e) (down_pos g)) (mul-pos C D)
    (mul-mul-mul_comm (m * up e) (n * up g) c d ∙ ap (λ (z : ℕ). z * (n * up g * d)) h.1 ∙ ap (λ (z : ℕ). a * down e * z) k.1 ∙ mul-mul-mul_comm a (down e) b (down g))

-- ---- a fraction below the smallest normal number keeps all digits of its whole part
none : (z p : ℕ) → z ≤ p - 1 → z - p ≡ 0
none z p h = omega arith

round-low : (f : Format) (s : Bool) (num den : ℕ) → 0 < den → num * 2 ^ low f < hid f * den → round f s num den ≡ units f s (closest (num * 2 ^ low f) den) 0
round-low f s num den D h =
    let n = num * 2 ^ low f in
    round_is f s num den
    ∙ ap (core f s n den) (none (size (n / den)) (prec f) (size-le (n / den) (prec f - 1) ((div-lt_iff_lt-mul D).1 h)))
    ∙ ap (λ (z : ℕ). units f s (closest n z) 0) (mul-one den)

-- ---- up to the smallest normal number a pattern is the number of units
split : (h n : ℕ) → n < h → n ≡ 0 * h + n
split h n l = omega arith

whole : (h n : ℕ) → n ≡ h → n ≡ 1 * h + 0
whole h n e = omega arith

pub ticks-low : (f : Format) (n : ℕ) → n ≤ hid f → ticks f n ≡ n
ticks-low f n h = go (eq-or-lt_of_le h)
  where
    go : (n ≡ hid f) ⊎ (n < hid f) → ticks f n ≡ n
    go (inl e) = ap (ticks f) (whole (hid f) n e) ∙ ticks-at f 1 0 (hid-pos f) ∙ mul-one (hid f + 0) ∙ add-zero (hid f) ∙ sym e
    go (inr l) = ap (ticks f) (split (hid f) n l) ∙ ticks-at f 0 n l

pub closest-low : (a b h : ℕ) → 0 < b → a < h * b → closest a b ≤ h
closest-low a b h B l = le_trans (nearest-le (a / b) (compare (a % b * 2) b)) ((div-lt_iff_lt-mul B).1 l)

-- ---- patterns up to the smallest normal number are far below the infinity's
spare : (p e : ℕ) → 2 ≤ p → p ≤ suc e → p - 1 < e + p - 2 + suc e
spare p e h k = omega arith

more : (p e : ℕ) → 2 ≤ p → p ≤ suc e → 1 < 2 * e + 1
more p e h k = omega arith

low-finite : (f : Format) (n : ℕ) → n ≤ hid f → n < inf_pat f
low-finite f n h = lt_of_le_of_lt h (subst (λ (z : ℕ). z < inf_pat f) (one-mul (hid f)) (mul-lt-mul_of_pos_right (more (prec f) (emax f) (two f) (reach f)) (hid-pos f)))

low-under : (f : Format) (n : ℕ) → n ≤ hid f → n * 2 ^ 0 < 2 ^ (low f + suc (emax f))
low-under f n h = lt_of_le_of_lt (le_trans (le_of_eq (mul-one n)) h) (pow-lt (spare (prec f) (emax f) (two f) (reach f)))

value : (f : Format) (b : ℕ) → b < inf_pat f → HasValue (of_bits f b) false (ticks f b) (2 ^ low f)
value f b h = subst (λ (z : ℕ). HasValue (of_bits f z) false (ticks f b) (2 ^ low f)) (zero-add b) (bits-ticks f false b h)

number : (x : Float) (s : Bool) (a c : ℕ) → HasValue x s a c → T (not (is_nan x))
unfolding is_nan
number nan s a c h = absurd h
number (inf t) s a c h = tt
number (fin t m e) s a c h = tt

own_bits : (f : Format) (n : ℕ) → n < inf_pat f → to_bits f (of_bits f n) ≡ n
own_bits f n h = to_bits-of_bits f n (lt_of_lt_of_le (lt_trans h (inf_pat<top f)) (le-mul-two (top f))) (number (of_bits f n) false (ticks f n) (2 ^ low f) (value f n h))
  where
    le-mul-two : (t : ℕ) → t ≤ 2 * t
    le-mul-two t = omega arith

-- ---- the law
module _ (f : Format) (a b : ℕ) (A : a < inf_pat f) (B : b < inf_pat f) (small : ticks f a * ticks f b < hid f * 2 ^ low f) where
  in-units : mul f (of_bits f a) (of_bits f b) ≡ units f false (closest (ticks f a * ticks f b) (2 ^ low f)) 0
  in-units =
      let l = 2 ^ low f in
      let n = ticks f a * ticks f b in
      let L = pow_pos (low f) in
      mul-values f (of_bits f a) (of_bits f b) false false (ticks f a) l (ticks f b) l L L (value f a A) (value f b B)
      ∙ round-low f false n (l * l) (mul-pos L L) (lt_of_lt_of_le (mul-lt-mul_of_pos_right small L) (le_of_eq (mul_assoc (hid f) l l)))
      ∙ ap (λ (z : ℕ). units f false z 0) (closest_same (n * l) (l * l) n l (mul-pos L L) L (mul_assoc n l l))

  low-enough : closest (ticks f a * ticks f b) (2 ^ low f) ≤ hid f
  low-enough = closest-low (ticks f a * ticks f b) (2 ^ low f) (hid f) (pow_pos (low f)) small

  pub product-units : mul f (of_bits f a) (of_bits f b) ≡ of_bits f (closest (ticks f a * ticks f b) (2 ^ low f))
  product-units =
      let l = 2 ^ low f in
      let n = closest (ticks f a * ticks f b) l in
      let x = mul f (of_bits f a) (of_bits f b) in
      unique f x (of_bits f n) false n l (pow_pos (low f)) (mul-fits f (of_bits f a) (of_bits f b)) (of_bits-fits f n)
      (subst (λ (z : Float). HasValue z false n l) (sym in-units) (subst (λ (z : ℕ). HasValue (units f false n 0) false z l) (mul-one n) (units_val f false n 0 (low-under f n low-enough))))
      (subst (λ (z : ℕ). HasValue (of_bits f n) false z l) (ticks-low f n low-enough) (value f n (low-finite f n low-enough)))

  pub product-bits : to_bits f (mul f (of_bits f a) (of_bits f b)) ≡ closest (ticks f a * ticks f b) (2 ^ low f)
  product-bits = ap (to_bits f) product-units ∙ own_bits f (closest (ticks f a * ticks f b) (2 ^ low f)) (low-finite f (closest (ticks f a * ticks f b) (2 ^ low f)) low-enough)
