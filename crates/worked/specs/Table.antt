-- The worked numbers of document 01 that are marked P, in its order and words: what the definition that a contract cites gives, beside the paper's number.
-- A double is written as its bits, so that -0.0 is not 0.0. Assumes nothing.
use Rattle.std.specs.Prelude.{ℕ, ◌+◌, ◌*◌, Bool, true, false, ◌&&◌, List, [], ◌∷◌, map, eqb, Float}
use Prim.Native.String.{String}
use Rattle.std.specs.Float.{binary64}
use Rattle.std.specs.Float.Ieee.{of_bits, to_bits}
use Rattle.doubles.specs.Neighbour.{next_up}
use Rattle.interval.specs.declared.Interval.{Interval}
use Rattle.interval.specs.Ops.{add_of, mul_of, sqr_of}
use Rattle.interval.specs.Numbers.{ends_onto}
use Rattle.knots.specs.Curve.{curve_refusal}
use Rattle.knots.specs.Span.{refusing, clamping, span_answer}
use Rattle.knots.specs.Numbers.{span_answer_refusal, span_answer_values}
use Rattle.basis.specs.Basis.{cell}
use Rattle.basis.specs.Ders.{basis_table}
use Rattle.edits.specs.Outcome.{Outcome}
use Rattle.edits.specs.Whole.{answer_of, knots_in, points_in}
use Rattle.insertion.specs.Whole.{insert_outcome}
use Rattle.edits.specs.Numbers.{edit_answer_values}
use Rattle.trimming.specs.Trim.{trim_outcome}
use Rattle.elevation.specs.Whole.{elevated_count, elevate_outcome}
use Rattle.ranges.specs.Range.{span_over}
use Rattle.bounds.specs.Curve.{bound_of}
use Rattle.bounds.specs.Numbers.{bounded_refusal}

-- ---- doubles by their bits
abbrev pub d : ℕ → Float
d b = of_bits binary64 b

abbrev pub doubles : List ℕ → List Float
doubles = map d

abbrev bits : List Float → List ℕ
bits = map (to_bits binary64)

-- 2^-1074
abbrev tiny : ℕ
tiny = 1

abbrev eighth : ℕ
eighth = 0x3fc0_0000_0000_0000

abbrev quarter : ℕ
quarter = 0x3fd0_0000_0000_0000

abbrev pub half : ℕ
half = 0x3fe0_0000_0000_0000

abbrev five-eighths : ℕ
five-eighths = 0x3fe4_0000_0000_0000

abbrev pub one : ℕ
one = 0x3ff0_0000_0000_0000

abbrev three_halves : ℕ
three_halves = 0x3ff8_0000_0000_0000

abbrev pub two : ℕ
two = 0x4000_0000_0000_0000

abbrev pub three : ℕ
three = 0x4008_0000_0000_0000

abbrev four : ℕ
four = 0x4010_0000_0000_0000

abbrev five : ℕ
five = 0x4014_0000_0000_0000

abbrev six : ℕ
six = 0x4018_0000_0000_0000

-- with the sign set
abbrev pub minus : ℕ → ℕ
minus b = 0x8000_0000_0000_0000 + b

-- points on the x axis
abbrev along : List ℕ → List ℕ
along [] = []
along (x ∷ xs) = x ∷ 0 ∷ 0 ∷ along xs

-- ---- the curves
-- table A: degree 2, knots 0 0 0 1 2 2 2, x = 0 2 4 6, y = z = 0, polynomial
abbrev knots_a : List Float
knots_a = doubles (0 ∷ 0 ∷ 0 ∷ one ∷ two ∷ two ∷ two ∷ [])

abbrev points_a : List Float
points_a = doubles (along (0 ∷ two ∷ four ∷ six ∷ []))

-- the line: degree 1, knots 0 0 1 1, x = 0 2
abbrev knots_line : List Float
knots_line = doubles (0 ∷ 0 ∷ one ∷ one ∷ [])

abbrev points_line : List Float
points_line = doubles (along (0 ∷ two ∷ []))

-- the short line: degree 1, knots 0 0 2^-1074 2^-1074, x = 0 2
abbrev knots_short : List Float
knots_short = doubles (0 ∷ 0 ∷ tiny ∷ tiny ∷ [])

-- ---- what the calls answer on them
-- the refusal of a parameter of A, 0 for none, and its span where there is none
abbrev span_by : Bool → ℕ → List ℕ
span_by c u = let a = span_answer c 2 4 knots_a (d u) in (span_answer_refusal a).number ∷ span_answer_values a

abbrev span_a : ℕ → List ℕ
span_a = span_by refusing

-- derivative k of the three functions of A at 0.5, of the table that `basis_derivatives` leaves
abbrev basis_a : ℕ → List ℕ
basis_a k = let t = basis_table 195 2 1 knots_a 2 (d half) in bits (cell t k 0 ∷ cell t k 1 ∷ cell t k 2 ∷ [])

-- an edit's last four numbers are the lengths of its outputs and scratch, each just long enough
abbrev inserted_a : Outcome
inserted_a = insert_outcome 2 knots_a points_a false [] (doubles (one ∷ [])) 8 15 0 56

abbrev trimmed_a : Outcome
trimmed_a = trim_outcome 2 knots_a points_a false [] (d 0) (d one) 6 9 0 66

abbrev raised_line : Outcome
raised_line = elevate_outcome 1 knots_line points_line false [] 2 6 9 0 24

abbrev raised_a : Outcome
raised_a = elevate_outcome 2 knots_a points_a false [] 3 11 21 0 66

-- what an edit leaves in a run for n points, and in one for m knots
abbrev points_of : ℕ → Outcome → List ℕ
points_of n o = bits (points_in (n * 3) o)

abbrev knots_of : ℕ → Outcome → List ℕ
knots_of m o = bits (knots_in m o)

abbrev interval : ℕ → ℕ → Interval
interval a b = record { lo = d a; hi = d b }

abbrev ends : Interval → List ℕ
ends i = bits (ends_onto i [])

abbrev up : ℕ → List ℕ
up b = bits (next_up (d b) ∷ [])

-- the span whose bounds answer for a range of A, and their refusal, 0 for none
abbrev range_a : ℕ → ℕ → List ℕ
range_a lo hi = span_over 2 4 knots_a (d lo) (d hi) ∷ []

abbrev bound_a : ℕ → ℕ → List ℕ
bound_a lo hi = (bounded_refusal (bound_of 2 knots_a points_a false [] (d lo) (d hi))).number ∷ []

-- ---- the table
pub record Row : Type 0 where
  pub name : String
  pub computed : List ℕ
  pub paper : List ℕ

abbrev row : String → List ℕ → List ℕ → Row
row n c p = record { name = n; computed = c; paper = p }

unfoldable pub rows : List Row
rows =
    -- spans of A at 0, 0.5, 1, 2 are 2, 2, 3, 3
    row "span of A at 0" (span_a 0) (0 ∷ 2 ∷ [])
    ∷ row "span of A at 0.5" (span_a half) (0 ∷ 2 ∷ [])
    ∷ row "span of A at 1" (span_a one) (0 ∷ 3 ∷ [])
    ∷ row "span of A at 2" (span_a two) (0 ∷ 3 ∷ [])
    -- at -0.0 it is 2; at -2^-1074 and 3, 43; clamped, 2 and 3
    ∷ row "span of A at -0.0" (span_a (minus 0)) (0 ∷ 2 ∷ [])
    ∷ row "span of A at -2^-1074" (span_a (minus tiny)) (43 ∷ [])
    ∷ row "span of A at 3" (span_a three) (43 ∷ [])
    ∷ row "clamped span of A at -2^-1074" (span_by clamping (minus tiny)) (0 ∷ 2 ∷ [])
    ∷ row "clamped span of A at 3" (span_by clamping three) (0 ∷ 3 ∷ [])
    -- basis of A at 0.5 is 0.25, 0.625, 0.125; first derivatives -1, 0.5, 0.5
    ∷ row "basis of A at 0.5" (basis_a 0) (quarter ∷ five-eighths ∷ eighth ∷ [])
    ∷ row "first derivatives of A's basis at 0.5" (basis_a 1) (minus one ∷ half ∷ half ∷ [])
    -- inserting 1 gives x = 0 2 3 4 6, knots 0 0 0 1 1 2 2 2
    ∷ row "x of A with 1" (points_of 5 inserted_a) (along (0 ∷ two ∷ three ∷ four ∷ six ∷ []))
    ∷ row "knots of A with 1" (knots_of 8 inserted_a) (0 ∷ 0 ∷ 0 ∷ one ∷ one ∷ two ∷ two ∷ two ∷ [])
    -- trim to [0, 1] gives x = 0 2 3, knots 0 0 0 1 1 1
    ∷ row "x of A on [0, 1]" (points_of 3 trimmed_a) (along (0 ∷ two ∷ three ∷ []))
    ∷ row "knots of A on [0, 1]" (knots_of 6 trimmed_a) (0 ∷ 0 ∷ 0 ∷ one ∷ one ∷ one ∷ [])
    -- degree 1, knots 0 0 1 1, x = 0 2 raised to 2: x = 0 1 2. A raised to 3: 7 points
    ∷ row "x of the line raised to 2" (points_of 3 raised_line) (along (0 ∷ one ∷ two ∷ []))
    ∷ row "degree and points of A raised to 3" (edit_answer_values (answer_of 3 (elevated_count 2 3 4 knots_a) raised_a)) (3 ∷ 7 ∷ [])
    -- [1,1] + [2,2] = [3 - 2^-51, 3 + 2^-51]. [0,0]·[5,5] = [-2^-1074, 2^-1074]. sqr of [-1,2] = [0, 4 + 2^-50]
    ∷ row "[1,1] + [2,2]" (ends (add_of (interval one one) (interval two two))) (0x4007_ffff_ffff_ffff ∷ 0x4008_0000_0000_0001 ∷ [])
    ∷ row "[0,0]·[5,5]" (ends (mul_of (interval 0 0) (interval five five))) (minus tiny ∷ tiny ∷ [])
    ∷ row "sqr of [-1,2]" (ends (sqr_of (interval (minus one) two))) (0 ∷ 0x4010_0000_0000_0001 ∷ [])
    -- next_up of -2^-1074 is -0.0; of either zero, 2^-1074
    ∷ row "next_up of -2^-1074" (up (minus tiny)) (minus 0 ∷ [])
    ∷ row "next_up of -0.0" (up (minus 0)) (tiny ∷ [])
    ∷ row "next_up of 0.0" (up 0) (tiny ∷ [])
    -- bounds of A on [1, 1] use span 2; on [0.5, 1.5], 25
    ∷ row "span of bounds of A on [1, 1]" (range_a one one) (2 ∷ [])
    ∷ row "bounds of A on [1, 1] are given" (bound_a one one) (0 ∷ [])
    ∷ row "bounds of A on [0.5, 1.5]" (bound_a half three_halves) (25 ∷ [])
    -- degree 1, knots 0 0 2^-1074 2^-1074: accepted, bound on the whole domain 26
    ∷ row "short knots accepted" ((curve_refusal 1 knots_short points_line false []).number ∷ []) (0 ∷ [])
    ∷ row "bound on the short domain" ((bounded_refusal (bound_of 1 knots_short points_line false [] (d 0) (d tiny))).number ∷ []) (26 ∷ [])
    ∷ []

-- ---- the test
abbrev pub same : List ℕ → List ℕ → Bool
same [] [] = true
same [] (y ∷ ys) = false
same (x ∷ xs) [] = false
same (x ∷ xs) (y ∷ ys) = eqb x y && same xs ys

abbrev pub all : List Row → Bool
all [] = true
all (r ∷ rs) = same r.computed r.paper && all rs
