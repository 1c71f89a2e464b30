-- The operations of the crate as functions of the values: what each contract says is the result (document 01, module 1, and the divide of module 6).
use Rattle.std.specs.Prelude.{Bool, true, false, cond, ◌&&◌, ◌||◌, is_nan, Float, Option, Some, None, Result, Ok, Err}
use Rattle.std.specs.Float.{inf, binary64}
use Rattle.std.specs.Float.Ieee.{neg, lt, le, eq, add, sub, mul, div}
use Rattle.doubles.specs.Neighbour.{next_up, next_down, fmin, fmax, fabs, least4, greatest4}
use Rattle.doubles.specs.Value.{zero+, one+}
use Rattle.interval.specs.declared.Interval.{Interval}
use Rattle.interval.specs.declared.DivideError.{DivideError}
use Rattle.interval.specs.declared.DivideError.TheVariants.{HoldsZero, Unbounded}
use Rattle.interval.specs.declared.Sign.{Sign}
use Rattle.interval.specs.declared.Sign.TheVariants.{Positive, Negative, Zero, Unknown}

abbrev pub entire : Interval
entire = record { lo = inf true; hi = inf false }

unfoldable pub new_of : Float → Float → Option Interval
new_of a b = cond (le a b) (Some (record { lo = a; hi = b })) None

unfoldable pub point_of : Float → Interval
point_of x = cond (is_nan x) entire (record { lo = x; hi = x })

abbrev pub width_of : Interval → Float
width_of a = next_up (sub binary64 a.hi a.lo)

unfoldable pub contains_of : Interval → Float → Bool
contains_of a x = le a.lo x && le x a.hi

unfoldable pub hull_of : Interval → Interval → Interval
hull_of a b = record { lo = fmin a.lo b.lo; hi = fmax a.hi b.hi }

unfoldable pub sign_of : Interval → Sign
sign_of a = cond (lt zero+ a.lo) Positive (cond (lt a.hi zero+) Negative (cond (eq a.lo zero+ && eq a.hi zero+) Zero Unknown))

-- an operation that meets a NaN gives the whole line
unfoldable pub checked_of : Float → Float → Interval
checked_of a b = cond (is_nan a || is_nan b) entire (record { lo = a; hi = b })

unfoldable pub sqr_of : Interval → Interval
sqr_of a =
    let p = mul binary64 a.lo a.lo in
    let q = mul binary64 a.hi a.hi in
    checked_of (cond (contains_of a zero+) zero+ (fmax (next_down (fmin p q)) zero+)) (next_up (fmax p q))

unfoldable pub add_of : Interval → Interval → Interval
add_of a b = checked_of (next_down (add binary64 a.lo b.lo)) (next_up (add binary64 a.hi b.hi))

unfoldable pub sub_of : Interval → Interval → Interval
sub_of a b = checked_of (next_down (sub binary64 a.lo b.hi)) (next_up (sub binary64 a.hi b.lo))

unfoldable pub some_nan : Float → Float → Float → Float → Bool
some_nan p q r s = is_nan p || is_nan q || is_nan r || is_nan s

unfoldable pub mul_of : Interval → Interval → Interval
mul_of a b =
    let p = mul binary64 a.lo b.lo in
    let q = mul binary64 a.lo b.hi in
    let r = mul binary64 a.hi b.lo in
    let s = mul binary64 a.hi b.hi in
    cond (some_nan p q r s) entire (checked_of (next_down (least4 p q r s)) (next_up (greatest4 p q r s)))

-- the ends -s and s, whatever s is
abbrev pub opposites_of : Float → Interval
opposites_of s = record { lo = neg s; hi = s }

-- [-|s|, |s|]
unfoldable pub symmetric_of : Float → Interval
symmetric_of s = cond (is_nan s) entire (opposites_of (fabs s))

abbrev pub is_symmetric : Interval → Bool
is_symmetric a = eq a.lo (neg a.hi)

abbrev pub neg_of : Interval → Interval
neg_of a = record { lo = neg a.hi; hi = neg a.lo }

abbrev pub made_by : Option Interval → Result Interval DivideError
made_by (Some r) = Ok r
made_by None = Err Unbounded

-- the outward interval of both reciprocals
unfoldable pub reciprocal_of : Interval → Result Interval DivideError
reciprocal_of b =
    let x = div binary64 one+ b.lo in
    let y = div binary64 one+ b.hi in
    cond (contains_of b zero+) (Err HoldsZero) (made_by (new_of (next_down (fmin x y)) (next_up (fmax x y))))

abbrev pub times_by : Interval → Result Interval DivideError → Result Interval DivideError
times_by a (Ok r) = Ok (mul_of a r)
times_by a (Err e) = Err e

unfoldable pub divide_of : Interval → Interval → Result Interval DivideError
divide_of a b = times_by a (reciprocal_of b)
