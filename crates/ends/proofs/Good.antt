-- Products of any intervals, and sums of good ones, are good. Assumes nothing.
use mathlib.Core.Path.{◌≡◌, refl, sym, ◌∙◌, subst}
use mathlib.Core.Bool.{Bool, true, false, not, cond}
use lib.Dec.{T}
use lib.Ieee.{Float, nan, inf, fin, binary64, Format, is_nan, lt, neg, add, sub}
use lib.Ieee.Bits.{is_false}
use lib.Ieee.Fits.{add-fits, sub-fits, mul-fits, neg-fits, inf-fits}
use Rattle.doubles.specs.Value.{Number, ◌⊑◌}
use Rattle.doubles.specs.Neighbour.{next_up, next_down, up_from, down_from, least4, greatest4}
use Rattle.doubles.proofs.TestFacts.{Tn-of, neg-neg}
use Rattle.doubles.proofs.Order.{⊑_trans, lt_trans, lt_irrefl, lt-asym}
use Rattle.doubles.proofs.Neighbour.{up_fits, down_fits, up_above, neg-lt}
use Rattle.doubles.proofs.Products.{number-neg}
use Rattle.doubles.proofs.Opposite.{Opposed, add-opposed}
use Rattle.doubles.proofs.Extremes.{Four, least, greatest}
use Rattle.doubles.proofs.Symmetric.{bottom}
use Rattle.doubles.proofs.Rising.{Above, Below, sum_number, sum-rising, under_top}
use Rattle.interval.specs.Ops.{entire, point_of, checked_of, some_nan, add_of, sub_of, mul_of}
use Rattle.interval.specs.declared.Interval.{Interval}
use Rattle.interval.proofs.Facts.{none-nan, checked-out}
use Rattle.ends.specs.Good.{Held, Good}

-- ---- a step away from a number
pub up-over : (x : Float) → Held x → Number x → Above (next_up x)
up-over nan h n = absurd (unfold is_nan in n)
up-over (inf true) h n = up_above binary64 (inf true) h (unfold lt in tt)
up-over (inf false) h n = unfold up_from lt in tt
up-over (fin s m e) h n = lt_trans (inf true) (fin s m e) (next_up (fin s m e)) (unfold lt in tt) (up_above binary64 (fin s m e) h (unfold lt in tt))

pub up-after : (x : Float) → Held x → Number x → x ⊑ next_up x
up-after nan h n = absurd (unfold is_nan in n)
up-after (inf true) h n = lt-asym (inf true) (next_up (inf true)) (up_above binary64 (inf true) h (unfold lt in tt))
up-after (inf false) h n = unfold up_from lt in tt
up-after (fin s m e) h n = lt-asym (fin s m e) (next_up (fin s m e)) (up_above binary64 (fin s m e) h (unfold lt in tt))

-- the opposite of what is above minus infinity is below infinity
pub below-neg : (x : Float) → Above x → Below (neg x)
unfolding lt neg
below-neg nan h = h
below-neg (inf true) h = h
below-neg (inf false) h = tt
below-neg (fin s m e) h = tt

pub above-neg : (x : Float) → Below x → Above (neg x)
unfolding lt neg
above-neg nan h = h
above-neg (inf true) h = tt
above-neg (inf false) h = h
above-neg (fin s m e) h = tt

pub down-under : (x : Float) → Held x → Number x → Below (next_down x)
unfolding down_from
down-under x h n = below-neg (next_up (neg x)) (up-over (neg x) (neg-fits binary64 x h) (number-neg x n))

pub down-before : (x : Float) → Held x → Number x → next_down x ⊑ x
unfolding down_from
down-before x h n =
    subst (λ (z : Float). neg (next_up (neg x)) ⊑ z) (neg-neg x)
    (subst (λ (b : Bool). T (not b)) (sym (neg-lt (neg x) (next_up (neg x)))) (up-after (neg x) (neg-fits binary64 x h) (number-neg x n)))

-- ---- two numbers in order, each one step outward
module _ (x y : Float) (h : Held x) (k : Held y) (n : Number x) (m : Number y) where
  pub stepped : checked_of (next_down x) (next_up y) ≡ record { lo = next_down x; hi = next_up y }
  stepped = checked-out x y h k ∙ rw (is_false (is_nan x) n, is_false (is_nan y) m)

  pub stepped-good : x ⊑ y → Good (checked_of (next_down x) (next_up y))
  stepped-good l = rw stepped (record {
    low_held = down_fits binary64 x h;
    high_held = up_fits binary64 y k;
    low = down-under x h n;
    high = up-over y k m;
    ordered = ⊑_trans (next_down x) y (next_up y) m (⊑_trans (next_down x) x y n (down-before x h n) l) (up-after y k m);
  })

entire-good : Good entire
unfolding lt
entire-good = record { low_held = inf-fits binary64 true; high_held = inf-fits binary64 false; low = tt; high = tt; ordered = tt }

-- what an operation gives of two numbers in order, or of a NaN
pub checked-good : (x y : Float) → Held x → Held y → (Number x → Number y → x ⊑ y) → Good (checked_of (next_down x) (next_up y))
checked-good x y h k l = go (is_nan x) (is_nan y) refl refl
  where
    go : (a b : Bool) → is_nan x ≡ a → is_nan y ≡ b → Good (checked_of (next_down x) (next_up y))
    go false false e f = stepped-good x y h k (Tn-of _ e) (Tn-of _ f) (l (Tn-of _ e) (Tn-of _ f))
    go true b e f = rw (checked-out x y h k, e) entire-good
    go false true e f = rw (checked-out x y h k, e, f) entire-good

-- ---- the difference of two doubles
low_sum : (f : Format) (z : Float) → Number (add f (inf true) z) → add f (inf true) z ≡ inf true
unfolding add is_nan
low_sum f nan n = absurd n
low_sum f (inf true) n = refl
low_sum f (inf false) n = absurd n
low_sum f (fin s m e) n = refl

high_sum : (f : Format) (z : Float) → Number (add f z (inf false)) → add f z (inf false) ≡ inf false
unfolding add is_nan
high_sum f nan n = absurd n
high_sum f (inf true) n = absurd n
high_sum f (inf false) n = refl
high_sum f (fin s m e) n = refl

pub points-good : (p o : Float) → Good (sub_of (point_of p) (point_of o))
unfolding sub_of sub point_of
points-good p o =
    let l = sub binary64 (point_of p).lo (point_of o).hi in
    let h = sub binary64 (point_of p).hi (point_of o).lo in
    checked-good l h (sub-fits binary64 (point_of p).lo (point_of o).hi) (sub-fits binary64 (point_of p).hi (point_of o).lo) (go (is_nan p) (is_nan o))
  where
    minus-top : neg (inf true) ≡ inf false
    minus-top = unfold neg in refl

    go : (a b : Bool) →
        let P : Interval = cond a entire (record { lo = p; hi = p }) in
        let O : Interval = cond b entire (record { lo = o; hi = o }) in
        Number (add binary64 P.lo (neg O.hi)) → Number (add binary64 P.hi (neg O.lo)) → add binary64 P.lo (neg O.hi) ⊑ add binary64 P.hi (neg O.lo)
    go true b n m = rw (low_sum binary64 _ n) (bottom _)
    go false true n m = rw (minus-top, high_sum binary64 p (rw minus-top at m)) (under_top _)
    go false false n m = lt_irrefl _

-- ---- products: of any two intervals
module _ (p q r s : Float) (h : Four Held p q r s) where
  four-good : (b : Bool) → some_nan p q r s ≡ b → Good (cond b entire (checked_of (next_down (least4 p q r s)) (next_up (greatest4 p q r s))))
  four-good true e = entire-good
  four-good false e =
      let z = none-nan p q r s e in
      let n : Four Number p q r s = record { one = Tn-of _ z.one; two = Tn-of _ z.two; three = Tn-of _ z.three; four = Tn-of _ z.four } in
      let l = least binary64 p q r s h n in
      let g = greatest binary64 p q r s h n in
      stepped-good (least4 p q r s) (greatest4 p q r s) l.held g.held l.number g.number (⊑_trans (least4 p q r s) p (greatest4 p q r s) n.one l.each.one g.each.one)

pub mul-good : (a b : Interval) → Good (mul_of a b)
unfolding mul_of
mul-good a b = four-good _ _ _ _ (record { one = mul-fits binary64 _ _; two = mul-fits binary64 _ _; three = mul-fits binary64 _ _; four = mul-fits binary64 _ _ }) _ refl

-- ---- sums
module _ (a b : Interval) (A : Good a) (B : Good b) where
  abbrev l : Float
  l = add binary64 a.lo b.lo

  abbrev h : Float
  h = add binary64 a.hi b.hi

  -- the low end by its opposites
  pub opposites : Opposed (add binary64 (neg a.lo) (neg b.lo)) l
  opposites = add-opposed binary64 a.lo b.lo

  pub under-number : Number (add binary64 (neg a.lo) (neg b.lo))
  under-number = sum_number binary64 (neg a.lo) (neg b.lo) (above-neg a.lo A.low) (above-neg b.lo B.low)

  pub low-number : Number l
  low-number = subst (λ (x : Bool). T (not x)) opposites.nans under-number

  pub high-number : Number h
  high-number = sum_number binary64 a.hi b.hi A.high B.high

  pub sum_is : add_of a b ≡ record { lo = next_down l; hi = next_up h }
  unfolding add_of
  sum_is = stepped l h (add-fits binary64 _ _) (add-fits binary64 _ _) low-number high-number

  pub sum-good : Good (add_of a b)
  unfolding add_of
  sum-good = stepped-good l h (add-fits binary64 _ _) (add-fits binary64 _ _) low-number high-number
      (sum-rising binary64 a.lo b.lo a.hi b.hi A.low B.low A.high B.high A.ordered B.ordered)
