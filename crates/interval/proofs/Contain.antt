-- For any fractions inside the operands the exact result is inside the computed interval. Assumes nothing.
use Rattle.std.proofs.Common.{◌≡◌, Bool, true, false, cond, not, ◌&&◌, ◌||◌, T, ◌⊎◌, sym, ◌∙◌, subst, inl, inr}
use lib.Ieee.{Float, nan, inf, fin, binary64, is_nan, fits, lt, le, eq, mul, div}
use lib.Ieee.Fits.{mul-fits, div-fits, and_l, and_r}
use lib.Ieee.Scale.{finite}
use Rattle.exact.specs.Rational.{ℚ, ◌+q◌, ◌-q◌, ◌*q◌, ◌/q◌, negq, inv, q0, ◌≤q◌, ◌<q◌}
use Rattle.exact.proofs.Field.{div_is, not-both, ≤-antisym, ≤_trans}
use Rattle.doubles.specs.Value.{zero+, one+, val, Lower, Upper, Number}
use Rattle.doubles.specs.Neighbour.{next_up, next_down, fmin, fmax, least4, greatest4}
use Rattle.doubles.proofs.TestFacts.{yes_or_no}
use Rattle.doubles.proofs.Value.{val-zero, val-lt}
use Rattle.doubles.proofs.Order.{le_is, le_left, le_right, le_not, val-eq}
use Rattle.doubles.proofs.Enclose.{lower-neg, upper-neg}
use Rattle.doubles.proofs.Sums.{sum-lower, sum-upper, sub-lower, sub-upper}
use Rattle.doubles.proofs.Extremes.{Picked, Under, Over, Four, smaller, larger, least, greatest, min-fits, max-fits}
use Rattle.doubles.proofs.Products.{mul-lower, mul-upper}
use Rattle.doubles.proofs.Limits.{lower-number, upper-number, lower-out, upper-out, lower-self, upper_self, off_zero, end-above, end_below}
use Rattle.doubles.proofs.Reciprocals.{recip-lower, recip-upper, recip-number}
use Rattle.doubles.proofs.Squares.{square-number, square-upper, square-lower, zero-lower}
use Rattle.interval.specs.declared.Interval.{Interval}
use Rattle.interval.specs.declared.DivideError.{DivideError}
use Rattle.interval.specs.declared.DivideError.TheVariants.{HoldsZero, Unbounded}
use Rattle.std.specs.Prelude.{Option, Some, None, Result, Ok, Err}
use Rattle.interval.specs.declared.Sign.{Sign}
use Rattle.interval.specs.declared.Sign.TheVariants.{Positive, Negative, Zero, Unknown}
use Rattle.interval.specs.Ops.{entire, point_of, checked_of, add_of, sub_of, mul_of, neg_of, some_nan, sqr_of, contains_of, new_of, made_by, reciprocal_of, times_by, divide_of, hull_of, width_of, sign_of}
use Rattle.interval.specs.Inside.{Inside, Encloses}

pub entire-inside : (x : ℚ) → Inside entire x
entire-inside x = record { low = tt; high = tt }

checked-inside : (l h : Float) (x : ℚ) → Lower l x → Upper h x → Inside (checked_of l h) x
unfolding checked_of
checked-inside l h x L H = go (is_nan l || is_nan h)
  where
    go : (b : Bool) → Inside (cond b entire (record { lo = l; hi = h })) x
    go true = entire-inside x
    go false = record { low = L; high = H }

-- the value itself is in its point interval, where it is finite
pub point-inside : (v : Float) → T (finite v) → Inside (point_of v) (val v)
unfolding is_nan point_of
point-inside nan h = absurd h
point-inside (inf s) h = absurd h
point-inside (fin s m e) h = record { low = lower-self (fin s m e) tt; high = upper_self (fin s m e) tt }

pub contains-inside : (a : Interval) (v : Float) → T (finite v) → T (contains_of a v) → Inside a (val v)
unfolding contains_of
contains-inside a v f h =
    let l = and_l (le a.lo v) (le v a.hi) h in
    let g = and_r (le a.lo v) (le v a.hi) h in
    record {
      low = lower-out a.lo v (val v) (le_left a.lo v l) (le_not a.lo v l) (lower-self v f);
      high = upper-out a.hi v (val v) (le_right v a.hi g) (le_not v a.hi g) (upper_self v f);
    }

module _ (a b : Interval) (x y : ℚ) (i : Inside a x) (j : Inside b y) where
  pub add-inside : Inside (add_of a b) (x +q y)
  unfolding add_of
  add-inside = checked-inside _ _ (x +q y) (sum-lower binary64 a.lo b.lo x y i.low j.low) (sum-upper binary64 a.hi b.hi x y i.high j.high)

  pub sub-inside : Inside (sub_of a b) (x -q y)
  unfolding sub_of
  sub-inside = checked-inside _ _ (x -q y) (sub-lower binary64 a.lo b.hi x y i.low j.high) (sub-upper binary64 a.hi b.lo x y i.high j.low)

  -- none of the four products is a NaN where the test says so
  pub mul-inside : Inside (mul_of a b) (x *q y)
  unfolding mul_of some_nan
  mul-inside = go (is_nan p) (is_nan q) (is_nan r) (is_nan s) (λ k l m n. enclosed (record { one = k; two = l; three = m; four = n }))
    where
      p : Float
      p = mul binary64 a.lo b.lo

      q : Float
      q = mul binary64 a.lo b.hi

      r : Float
      r = mul binary64 a.hi b.lo

      s : Float
      s = mul binary64 a.hi b.hi

      answer : Interval
      answer = checked_of (next_down (least4 p q r s)) (next_up (greatest4 p q r s))

      enclosed : Four Number p q r s → Inside answer (x *q y)
      enclosed n =
          let h : Four (λ z. T (fits binary64 z)) p q r s =
          record { one = mul-fits binary64 a.lo b.lo; two = mul-fits binary64 a.lo b.hi; three = mul-fits binary64 a.hi b.lo; four = mul-fits binary64 a.hi b.hi } in
          let l = least binary64 p q r s h n in
          let g = greatest binary64 p q r s h n in
          checked-inside _ _ (x *q y)
          (mul-lower binary64 (least4 p q r s) l.held l.number x y a.lo a.hi b.lo b.hi n l.each i.low i.high j.low j.high)
          (mul-upper binary64 (greatest4 p q r s) g.held g.number x y a.lo a.hi b.lo b.hi n g.each i.low i.high j.low j.high)

      go : (t u v w : Bool) → (T (not t) → T (not u) → T (not v) → T (not w) → Inside answer (x *q y)) → Inside (cond (t || u || v || w) entire answer) (x *q y)
      go true u v w f = entire-inside (x *q y)
      go false true v w f = entire-inside (x *q y)
      go false false true w f = entire-inside (x *q y)
      go false false false true f = entire-inside (x *q y)
      go false false false false f = f tt tt tt tt

pub neg-inside : (a : Interval) (x : ℚ) → Inside a x → Inside (neg_of a) (negq x)
neg-inside a x i = record { low = lower-neg a.hi x i.high; high = upper-neg a.lo x i.low }

-- ---- squares
pub sqr-inside : (a : Interval) (x : ℚ) → Inside a x → Inside (sqr_of a) (x *q x)
unfolding sqr_of contains_of
sqr-inside a x i =
    checked-inside _ _ (x *q x)
    (low (contains_of a zero+) (off_zero a.lo a.hi x i.low i.high))
    (square-upper binary64 (fmax p q) (max-fits binary64 p q hp hq) g.number x a.lo a.hi i.low i.high g.first g.second)
  where
    p : Float
    p = mul binary64 a.lo a.lo

    q : Float
    q = mul binary64 a.hi a.hi

    np : Number p
    np = square-number binary64 a.lo (lower-number a.lo x i.low)

    nq : Number q
    nq = square-number binary64 a.hi (upper-number a.hi x i.high)

    hp : T (fits binary64 p)
    hp = mul-fits binary64 a.lo a.lo

    hq : T (fits binary64 q)
    hq = mul-fits binary64 a.hi a.hi

    g : Picked Over p q (fmax p q)
    g = larger p q np nq

    l : Picked Under p q (fmin p q)
    l = smaller p q np nq

    either : (b : Bool) (u v : Float) → Lower u (x *q x) → Lower v (x *q x) → Lower (cond b u v) (x *q x)
    either true u v h k = h
    either false u v h k = k

    low : (t : Bool) → (T (not t) → T (lt zero+ a.lo) ⊎ T (lt a.hi zero+)) → Lower (cond t zero+ (fmax (next_down (fmin p q)) zero+)) (x *q x)
    low true o = zero-lower x
    low false o =
        either (lt (next_down (fmin p q)) zero+ || is_nan (next_down (fmin p q))) zero+ (next_down (fmin p q)) (zero-lower x)
        (square-lower binary64 (fmin p q) (min-fits binary64 p q hp hq) l.number x a.lo a.hi i.low i.high (o tt) l.first l.second)

-- ---- quotients

-- two ends with a fraction between them are in order
pub ends-ordered : (l h : Float) (x : ℚ) → Lower l x → Upper h x → T (le l h)
ends-ordered nan h x a b = absurd a
ends-ordered (inf false) h x a b = absurd a
ends-ordered (inf true) nan x a b = absurd b
ends-ordered (inf true) (inf true) x a b = absurd b
ends-ordered (inf true) (inf false) x a b = unfold le lt in tt
ends-ordered (inf true) (fin t n d) x a b = unfold le lt in tt
ends-ordered (fin s m e) nan x a b = absurd b
ends-ordered (fin s m e) (inf true) x a b = absurd b
ends-ordered (fin s m e) (inf false) x a b = unfold le lt in tt
ends-ordered (fin s m e) (fin t n d) x a b = elim (yes_or_no (lt (fin t n d) (fin s m e))) [
  | inl l ↦ absurd (not-both (val-lt (fin t n d) (fin s m e) tt tt l) (≤_trans a b))
  | inr k ↦ subst T (sym (le_is (fin s m e) (fin t n d) (unfold is_nan in tt) (unfold is_nan in tt))) k
]

-- so an interval is made of them
abbrev MadeInside : Option Interval → ℚ → Type 0
MadeInside (Some c) x = Inside c x
MadeInside None x = ⊥

new-inside : (l h : Float) (x : ℚ) → Lower l x → Upper h x → MadeInside (new_of l h) x
unfolding new_of
new-inside l h x L H = go (le l h) (ends-ordered l h x L H)
  where
    go : (b : Bool) → T b → MadeInside (cond b (Some (record { lo = l; hi = h })) None) x
    go true t = record { low = L; high = H }
    go false t = absurd t

-- a quotient that holds x, or a divisor that holds 0: never `Unbounded`
abbrev pub Formed : Result Interval DivideError → ℚ → Type 0
Formed (Ok c) x = Inside c x
Formed (Err HoldsZero) x = Unit
Formed (Err Unbounded) x = ⊥

made-formed : (n : Option Interval) (x : ℚ) → MadeInside n x → Formed (made_by n) x
made-formed (Some c) x i = i
made-formed None x i = absurd i

formed-inside : (q : Result Interval DivideError) (x : ℚ) → Formed q x → Encloses q x
formed-inside (Ok c) x i = i
formed-inside (Err HoldsZero) x i = tt
formed-inside (Err Unbounded) x i = tt

pub reciprocal-formed : (b : Interval) (y : ℚ) → Inside b y → Formed (reciprocal_of b) (inv y)
unfolding reciprocal_of contains_of
reciprocal-formed b y j = go (contains_of b zero+) (off_zero b.lo b.hi y j.low j.high)
  where
    p : Float
    p = div binary64 one+ b.lo

    q : Float
    q = div binary64 one+ b.hi

    ends : T (lt zero+ b.lo) ⊎ T (lt b.hi zero+) → MadeInside (new_of (next_down (fmin p q)) (next_up (fmax p q))) (inv y)
    ends o =
        let np = recip-number binary64 b.lo (lower-number b.lo y j.low) in
        let nq = recip-number binary64 b.hi (upper-number b.hi y j.high) in
        let hp = div-fits binary64 one+ b.lo in
        let hq = div-fits binary64 one+ b.hi in
        let l = smaller p q np nq in
        let g = larger p q np nq in
        new-inside _ _ (inv y)
        (recip-lower binary64 (fmin p q) (min-fits binary64 p q hp hq) l.number y b.hi (elim o [ inl t ↦ inl (end-above b.lo y t j.low) | inr t ↦ inr t ]) j.high l.second)
        (recip-upper binary64 (fmax p q) (max-fits binary64 p q hp hq) g.number y b.lo (elim o [ inl t ↦ inl t | inr t ↦ inr (end_below b.hi y t j.high) ]) j.low g.first)

    go : (t : Bool) → (T (not t) → T (lt zero+ b.lo) ⊎ T (lt b.hi zero+)) → Formed (cond t (Err HoldsZero) (made_by (new_of (next_down (fmin p q)) (next_up (fmax p q))))) (inv y)
    go true o = tt
    go false o = made-formed (new_of (next_down (fmin p q)) (next_up (fmax p q))) (inv y) (ends (o tt))

pub divide-formed : (a b : Interval) (x y : ℚ) → Inside a x → Inside b y → Formed (divide_of a b) (x /q y)
unfolding divide_of
divide-formed a b x y i j = subst (Formed (divide_of a b)) (sym (div_is x y)) (go (reciprocal_of b) (reciprocal-formed b y j))
  where
    go : (r : Result Interval DivideError) → Formed r (inv y) → Formed (times_by a r) (x *q inv y)
    go (Ok c) k = mul-inside a c x (inv y) i k
    go (Err HoldsZero) k = tt
    go (Err Unbounded) k = k

pub reciprocal-inside : (b : Interval) (y : ℚ) → Inside b y → Encloses (reciprocal_of b) (inv y)
reciprocal-inside b y j = formed-inside (reciprocal_of b) (inv y) (reciprocal-formed b y j)

pub divide-inside : (a b : Interval) (x y : ℚ) → Inside a x → Inside b y → Encloses (divide_of a b) (x /q y)
divide-inside a b x y i j = formed-inside (divide_of a b) (x /q y) (divide-formed a b x y i j)

-- ---- hulls, widths, signs
module _ (a b : Interval) (x y : ℚ) (i : Inside a x) (j : Inside b y) where
  pub hull-inside : Inside (hull_of a b) x × Inside (hull_of a b) y
  unfolding hull_of
  hull-inside =
      let l = smaller a.lo b.lo (lower-number a.lo x i.low) (lower-number b.lo y j.low) in
      let g = larger a.hi b.hi (upper-number a.hi x i.high) (upper-number b.hi y j.high) in
      let m = fmin a.lo b.lo in
      let n = fmax a.hi b.hi in (
        record { low = lower-out m a.lo x l.number l.first i.low; high = upper-out n a.hi x g.number g.first i.high },
        record { low = lower-out m b.lo y l.number l.second j.low; high = upper-out n b.hi y g.number g.second j.high },
      )

-- the width is no less than the difference of any two fractions inside
pub width-over : (a : Interval) (x y : ℚ) → Inside a x → Inside a y → Upper (width_of a) (x -q y)
width-over a x y i j = sub-upper binary64 a.hi a.lo x y i.high j.low

-- what a sign says of each fraction inside
abbrev pub HasSign : Sign → ℚ → Type 0
HasSign Positive x = q0 <q x
HasSign Negative x = x <q q0
HasSign Zero x = x ≡ q0
HasSign Unknown x = Unit

only_zero : (a : Interval) (x : ℚ) → Inside a x → T (eq a.lo zero+) → T (eq a.hi zero+) → x ≡ q0
only_zero a x i l h = ≤-antisym (over a.hi i.high h) (under a.lo i.low l)
  where
    under : (v : Float) → Lower v x → T (eq v zero+) → q0 ≤q x
    under nan k e = absurd k
    under (inf s) k e = absurd (unfold eq in e)
    under (fin s m d) k e = subst (λ z. z ≤q x) (val-eq (fin s m d) zero+ tt tt e ∙ val-zero) k

    over : (v : Float) → Upper v x → T (eq v zero+) → x ≤q q0
    over nan k e = absurd k
    over (inf s) k e = absurd (unfold eq in e)
    over (fin s m d) k e = subst (λ z. x ≤q z) (val-eq (fin s m d) zero+ tt tt e ∙ val-zero) k

pub sign-says : (a : Interval) (x : ℚ) → Inside a x → HasSign (sign_of a) x
unfolding sign_of
sign-says a x i =
    go (lt zero+ a.lo) (λ t. end-above a.lo x t i.low) (lt a.hi zero+) (λ t. end_below a.hi x t i.high)
    (eq a.lo zero+) (eq a.hi zero+) (only_zero a x i)
  where
    go : (p : Bool) → (T p → q0 <q x) → (n : Bool) → (T n → x <q q0) → (l h : Bool) → (T l → T h → x ≡ q0) → HasSign (cond p Positive (cond n Negative (cond (l && h) Zero Unknown))) x
    go true f n g l h k = f tt
    go false f true g l h k = g tt
    go false f false g true true k = k tt tt
    go false f false g true false k = tt
    go false f false g false h k = tt
