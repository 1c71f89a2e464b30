-- Refusals 1 to 7 of the paper, over a degree p, a count n of points and a run of knots; and what a run is that is not refused.
-- Assumes nothing.
use Rattle.std.specs.Prelude.{ℕ, ◌+◌, ◌-◌, ◌<◌, Bool, true, false, not, ◌&&◌, cond, ◌≡◌, List, length, leb, eqb, Float}
use Rattle.std.specs.Float.{binary64}
use Rattle.std.specs.Float.Ieee.{sub, lt, le}
use Rattle.std.specs.Float.Ieee.Scale.{finite}
use Rattle.doubles.specs.Run.{at}
use Rattle.knots.specs.Below.{all_below, off_at}
use Rattle.knots.specs.Refusal.{refuse, accepted, placed, DegreeZero, FewPoints, KnotCount, KnotsUnordered, DomainEmpty, DomainWide, KnotRepeated}
use Rattle.knots.specs.declared.refusal.Refusal.{Refusal}

-- ---- the tests of a run, at a place of it
-- the number is finite
abbrev pub finite_at : List Float → ℕ → Bool
finite_at xs k = finite (at xs k)

-- the number does not exceed the next
abbrev pub rises_at : List Float → ℕ → Bool
rises_at xs k = not (lt (at xs (k + 1)) (at xs k))

-- it is not at least the one `gap` places further on
abbrev pub apart_at : ℕ → List Float → ℕ → Bool
apart_at gap xs k = not (le (at xs (k + gap)) (at xs k))

-- ---- at all places
-- every number is finite
unfoldable pub all_finite : List Float → Bool
all_finite xs = all_below (finite_at xs) (length xs)

-- no number exceeds the next
unfoldable pub in_order : List Float → Bool
in_order xs = all_below (rises_at xs) (length xs - 1)

unfoldable pub ordered : List Float → Bool
ordered xs = all_finite xs && in_order xs

-- of no two numbers that stand `gap` places apart the earlier is at least the later
unfoldable pub apart : ℕ → List Float → Bool
apart gap xs = all_below (apart_at gap xs) (length xs - gap)

-- ---- the first place where one fails
-- the first number that is not finite
abbrev pub non_finite_at : List Float → ℕ
non_finite_at xs = off_at (finite_at xs) (length xs)

-- the place of 4: the first number that is not finite; where all are, the first that exceeds the next
unfoldable pub unordered_at : List Float → ℕ
unordered_at xs = cond (all_finite xs) (off_at (rises_at xs) (length xs - 1)) (non_finite_at xs)

-- the place of 7: the first number that is at least the one `gap` places further on
unfoldable pub repeated_at : ℕ → List Float → ℕ
repeated_at gap xs = off_at (apart_at gap xs) (length xs - gap)

-- ---- the refusals
-- 4 to 7, of a run that is as long as it must be
unfoldable pub order_refusal : ℕ → ℕ → List Float → Refusal
order_refusal p n ks =
    cond (not (ordered ks)) (placed (unordered_at ks) (refuse KnotsUnordered))
    (cond (le (at ks n) (at ks p)) (refuse DomainEmpty)
    (cond (not (finite (sub binary64 (at ks n) (at ks p)))) (refuse DomainWide)
    (cond (not (apart (p + 1) ks)) (placed (repeated_at (p + 1) ks) (refuse KnotRepeated)) accepted)))

-- 1 to 7, each a row of the paper's table, in its order
unfoldable pub knot_refusal : ℕ → ℕ → List Float → Refusal
knot_refusal p n ks =
    cond (eqb p 0) (refuse DegreeZero)
    (cond (leb n p) (refuse FewPoints)
    (cond (not (eqb (length ks) (n + p + 1))) (refuse KnotCount) (order_refusal p n ks)))

-- What a run that is not refused is: the same facts, one by one, with no order among them.
pub record ValidKnots (p n : ℕ) (ks : List Float) : Type 0 where
  pub degree : 0 < p
  pub count : p < n
  pub long : length ks ≡ n + p + 1
  pub finites : (k : ℕ) → k < length ks → finite (at ks k) ≡ true
  pub rises : (k : ℕ) → k + 1 < length ks → lt (at ks (k + 1)) (at ks k) ≡ false
  pub domain : lt (at ks p) (at ks n) ≡ true
  pub width : finite (sub binary64 (at ks n) (at ks p)) ≡ true
  pub multiplicity : (k : ℕ) → k + (p + 1) < length ks → lt (at ks k) (at ks (k + (p + 1))) ≡ true
