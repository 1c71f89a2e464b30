-- Products and sums of intervals that are symmetric about zero are symmetric, and a product needs two products of ends. Assumes nothing.
use Rattle.std.proofs.Common.{◌≡◌, Bool, true, false, cond, not, ◌||◌, T, sym, refl, ap, ◌∙◌, subst, ap₂}
use lib.Ieee.{Float, binary64, neg, lt, is_nan, fits, add, mul}
use lib.Ieee.Fits.{neg-fits, add-fits, mul-fits}
use Rattle.doubles.specs.Neighbour.{next_up, next_down, least4, greatest4, down_from}
use Rattle.doubles.specs.Value.{Number}
use Rattle.doubles.proofs.TestFacts.{T_of, Tn-of, neg-neg}
use Rattle.doubles.proofs.Neighbour.{neg-nan, neg-lt}
use Rattle.doubles.proofs.Extremes.{Four}
use Rattle.doubles.proofs.Products.{mul-neg, number-neg}
use Rattle.doubles.proofs.Opposite.{Opposed, opposed-neg, add-opposed, mul-opposed, mul-swap}
use Rattle.doubles.proofs.Symmetric.{up_same, farthest, farthest-up, ends, ends-swapped}
use Rattle.doubles.proofs.Stepping.{up-nan}
use Rattle.interval.specs.declared.Interval.{Interval}
use Rattle.interval.specs.Ops.{entire, checked_of, some_nan, add_of, mul_of, opposites_of, is_symmetric}
use Rattle.interval.proofs.Facts.{none-nan}

abbrev Held : Float → Type 0
Held x = T (fits binary64 x)

-- what the definition makes of four products, and the code of two
abbrev box_of : Float → Float → Float → Float → Interval
box_of p q r s = cond (some_nan p q r s) entire (checked_of (next_down (least4 p q r s)) (next_up (greatest4 p q r s)))

abbrev pub around_of : Float → Float → Interval
around_of r s = cond (is_nan r || is_nan s) entire (record { lo = neg (next_up (farthest r s)); hi = next_up (farthest r s) })

same-else : (b : Bool) (x y : Interval) → (b ≡ false → x ≡ y) → cond b entire x ≡ cond b entire y
same-else true x y h = refl
same-else false x y h = h refl

module _ (p q r s : Float) (h : Four Held p q r s) (a : Opposed p r) (b : Opposed q s) where
  nans : some_nan p q r s ≡ (is_nan r || is_nan s)
  unfolding some_nan
  nans = rw (a.nans, b.nans) (go (is_nan r) (is_nan s))
    where
      go : (c d : Bool) → (c || d || c || d) ≡ (c || d)
      go true d = refl
      go false true = refl
      go false false = refl

  nans-swapped : some_nan p r q s ≡ (is_nan r || is_nan s)
  unfolding some_nan
  nans-swapped = rw (a.nans, b.nans) (go (is_nan r) (is_nan s))
    where
      go : (c d : Bool) → (c || c || d || d) ≡ (c || d)
      go true d = refl
      go false true = refl
      go false false = refl

  stepped : (l g : Float) → is_nan r ≡ false → (next_down l ≡ neg (next_up (farthest r s))) × (next_up g ≡ next_up (farthest r s))
      → checked_of (next_down l) (next_up g) ≡ record { lo = neg (next_up (farthest r s)); hi = next_up (farthest r s) }
  unfolding checked_of
  stepped l g n e =
      let m = farthest r s in
      rw (e.0, e.1, neg-nan (next_up m), farthest-up binary64 r s h.three h.four n)

  no-nans : (is_nan r || is_nan s) ≡ false → Four (λ x. is_nan x ≡ false) p q r s
  no-nans e = none-nan p q r s (nans ∙ e)

  numbers : (is_nan r || is_nan s) ≡ false → Four Number p q r s
  numbers e = let n = no-nans e in record { one = Tn-of _ n.one; two = Tn-of _ n.two; three = Tn-of _ n.three; four = Tn-of _ n.four }

  box : box_of p q r s ≡ around_of r s
  box = rw nans (same-else (is_nan r || is_nan s) _ _ (λ e. stepped _ _ (no-nans e).three (ends binary64 p q r s h (numbers e) a b)))

  box-swapped : box_of p r q s ≡ around_of r s
  box-swapped = rw nans-swapped (same-else (is_nan r || is_nan s) _ _ (λ e. stepped _ _ (no-nans e).three (ends-swapped binary64 p q r s h (numbers e) a b)))

-- an end times any double is opposite to the other end times it
abbrev Mirrored : Interval → Type 0
Mirrored a = (c : Float) → Opposed (mul binary64 a.lo c) (mul binary64 a.hi c)

module _ (a o : Interval) (k : Mirrored a) where
  four-held : Four Held (mul binary64 a.lo o.lo) (mul binary64 a.lo o.hi) (mul binary64 a.hi o.lo) (mul binary64 a.hi o.hi)
  four-held = record { one = mul-fits binary64 _ _; two = mul-fits binary64 _ _; three = mul-fits binary64 _ _; four = mul-fits binary64 _ _ }

  mirrored-left : mul_of a o ≡ around_of (mul binary64 a.hi o.lo) (mul binary64 a.hi o.hi)
  unfolding mul_of
  mirrored-left = box _ _ _ _ four-held (k o.lo) (k o.hi)

  mirrored-right : mul_of o a ≡ around_of (mul binary64 a.hi o.lo) (mul binary64 a.hi o.hi)
  unfolding mul_of
  mirrored-right =
      rw (mul-swap binary64 o.lo a.lo, mul-swap binary64 o.lo a.hi, mul-swap binary64 o.hi a.lo, mul-swap binary64 o.hi a.hi)
      (box-swapped _ _ _ _ four-held (k o.lo) (k o.hi))

pub about-zero : (s : Float) (o : Interval) → mul_of (opposites_of s) o ≡ around_of (mul binary64 s o.lo) (mul binary64 s o.hi)
about-zero s o = mirrored-left (opposites_of s) o (λ c. opposed-neg _ _ (mul-neg binary64 s c))

module _ (a o : Interval) (e : is_symmetric a ≡ true) where
  mirrored : Mirrored a
  mirrored c = mul-opposed binary64 a.lo a.hi c (T_of _ e)

  pub symmetric-left : mul_of (opposites_of a.hi) o ≡ mul_of a o
  symmetric-left = about-zero a.hi o ∙ sym (mirrored-left a o mirrored)

  pub symmetric-right : mul_of (opposites_of a.hi) o ≡ mul_of o a
  symmetric-right = about-zero a.hi o ∙ sym (mirrored-right a o mirrored)

-- ---- what a product and a sum with their high ends are

around-is : (b : Bool) (m : Float) → cond b entire (opposites_of m) ≡ opposites_of (cond b entire (opposites_of m)).hi
unfolding neg
around-is true m = refl
around-is false m = refl

pub product_is : (s : Float) (o : Interval) → mul_of (opposites_of s) o ≡ opposites_of (mul_of (opposites_of s) o).hi
product_is s o =
    let p = mul binary64 s o.lo in
    let q = mul binary64 s o.hi in
    subst (λ (i : Interval). i ≡ opposites_of i.hi) (sym (about-zero s o)) (around-is (is_nan p || is_nan q) (next_up (farthest p q)))

opposite-down : (x y : Float) → Opposed x y → Number y → next_down x ≡ neg (next_up y)
unfolding down_from
opposite-down x y o n =
    let m : Number x = subst (λ (b : Bool). T (not b)) (sym o.nans) n in
    ap neg (up_same binary64 (neg x) y (number-neg x m) n
    (subst (λ (b : Bool). T (not b)) (ap (λ (z : Float). lt z (neg y)) (sym (neg-neg x)) ∙ neg-lt (neg x) y) o.over)
    (subst (λ (b : Bool). T (not b)) (ap (λ (z : Float). lt (neg y) z) (sym (neg-neg x)) ∙ neg-lt y (neg x)) o.under))

pub sum-box : (a b : Float) → add_of (opposites_of a) (opposites_of b) ≡ cond (is_nan (add binary64 a b)) entire (opposites_of (next_up (add binary64 a b)))
unfolding add_of checked_of down_from
sum-box a b = rw (low, up-nan binary64 r (add-fits binary64 a b)) (go (is_nan r) refl)
  where
    p : Float
    p = add binary64 (neg a) (neg b)

    r : Float
    r = add binary64 a b

    o : Opposed p r
    o = add-opposed binary64 a b

    low : is_nan (next_down p) ≡ is_nan r
    low = neg-nan (next_up (neg p)) ∙ up-nan binary64 (neg p) (neg-fits binary64 p (add-fits binary64 (neg a) (neg b))) ∙ neg-nan p ∙ o.nans

    go : (c : Bool) → is_nan r ≡ c → cond (c || c) entire (record { lo = next_down p; hi = next_up r }) ≡ cond c entire (opposites_of (next_up r))
    go true e = refl
    go false e = ap (λ (z : Float). record { lo = z; hi = next_up r }) (opposite-down p r o (Tn-of _ e))

pub sum_is : (a b : Float) → add_of (opposites_of a) (opposites_of b) ≡ opposites_of (add_of (opposites_of a) (opposites_of b)).hi
sum_is a b = subst (λ (i : Interval). i ≡ opposites_of i.hi) (sym (sum-box a b)) (around-is (is_nan (add binary64 a b)) (next_up (add binary64 a b)))

-- the high end of a sum of two by theirs
abbrev high_of : Float → Float → Float
high_of x y = (add_of (opposites_of x) (opposites_of y)).hi

pair : (p q : Interval) (x y : Float) → p ≡ opposites_of x → q ≡ opposites_of y → add_of p q ≡ opposites_of (high_of x y)
pair p q x y e f = ap₂ add_of e f ∙ sum_is x y

module _ (a : Interval) (s : Float) (b : Interval) (t : Float) (c : Interval) (u : Float) (d : Interval) (v : Float) where
  abbrev x : Float
  x = high_of (mul_of (opposites_of s) a).hi (mul_of (opposites_of t) b).hi

  abbrev y : Float
  y = high_of (mul_of (opposites_of u) c).hi (mul_of (opposites_of v) d).hi

  pub products-are : opposites_of (high_of x y) ≡ add_of (add_of (mul_of (opposites_of s) a) (mul_of (opposites_of t) b)) (add_of (mul_of (opposites_of u) c) (mul_of (opposites_of v) d))
  products-are = sym (pair _ _ _ _ (pair _ _ _ _ (product_is s a) (product_is t b)) (pair _ _ _ _ (product_is u c) (product_is v d)))
