-- The span of a closed range, and the refusals of a range (document 01, module 6).
use Rattle.std.specs.Prelude.{ℕ, zero, suc, ◌+◌, ◌-◌, Bool, not, ◌&&◌, cond, List, length, ltb, leb, eqb, Float}
use Rattle.std.specs.Float.Ieee.{lt, le}
use Rattle.std.specs.Float.Ieee.Scale.{finite}
use Rattle.doubles.specs.Run.{at}
use Rattle.knots.specs.declared.refusal.Refusal.{Refusal}
use Rattle.knots.specs.Refusal.{refuse, accepted}
use Rattle.knots.specs.declared.refusal.Reason.TheVariants.{DegreeHigh, RangeBad, RangeInNoSpan}

-- span i is not empty and contains lo and hi
unfoldable pub in_span : List Float → Float → Float → ℕ → Bool
in_span ks lo hi i = lt (at ks i) (at ks (i + 1)) && (le (at ks i) lo && le hi (at ks (i + 1)))

-- the first of k places from i that f takes, and the place after them where it takes none
unfoldable pub first_from : (ℕ → Bool) → ℕ → ℕ → ℕ
first_from f zero i = i
first_from f (suc k) i = cond (f i) i (first_from f k (i + 1))

-- the first nonempty span of the domain that contains the closed range, or the count
unfoldable pub span_over : ℕ → ℕ → List Float → Float → Float → ℕ
span_over p n ks lo hi = first_from (in_span ks lo hi) (n - p) p

-- the same, and the count where p is above n or n is no place in the knots
unfoldable pub span_in : ℕ → ℕ → List Float → Float → Float → ℕ
span_in p n ks lo hi = cond (leb p n && ltb n (length ks)) (span_over p n ks lo hi) n

-- span s where it contains the closed range, or the count n
unfoldable pub taken_span : ℕ → ℕ → List Float → Float → Float → ℕ
taken_span s n ks lo hi = cond (in_span ks lo hi s) s n

-- refusals of a range whose span is s: 31, 24, 25, in this order
unfoldable pub range_refusal : ℕ → ℕ → ℕ → Float → Float → Refusal
range_refusal p n s lo hi =
    cond (ltb 64 p) (refuse DegreeHigh)
    (cond (not (finite lo)) (refuse RangeBad)
    (cond (not (finite hi)) (refuse RangeBad)
    (cond (lt hi lo) (refuse RangeBad)
    (cond (eqb s n) (refuse RangeInNoSpan) accepted))))
