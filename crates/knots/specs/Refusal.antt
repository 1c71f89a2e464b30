-- The table of refusals of the paper: each has a name here, by which the contracts cite it. And what a call answers that refuses.
-- Assumes nothing.
use Rattle.std.specs.Prelude.{ℕ, cond, List, [], ◌∷◌, eqb, Result, Ok, Err}
use Rattle.interval.specs.declared.DivideError.{DivideError}
use Rattle.interval.specs.declared.DivideError.TheVariants.{HoldsZero, Unbounded}
use Rattle.knots.specs.declared.refusal.Refusal.{Refusal}
pub use Rattle.knots.specs.declared.refusal.Reason.{Reason}
pub use Rattle.knots.specs.declared.refusal.Reason.TheVariants.{DegreeZero, FewPoints, KnotCount, KnotsUnordered, DomainEmpty, DomainWide, KnotRepeated, PointNotFinite, WeightCount, WeightBad, NetSize, ParameterNotFinite, KnotOutside, KnotFull, TrimBad, DegreeLowered, EndsUnclamped, ElevationHigh, ControlBad, EditBad, SecondNotFinite, IsoOutside, IsoWeightBad, RangeBad, RangeInNoSpan, DenominatorZero, WeightRatioLow, QuotientNone, WeightsApart, LengthBad, DegreeHigh, PointsUneven, RecordMalformed, ParameterOutside}

-- the classes: invalid, degenerate, unimplemented, capacity, internal; and none, of a number that is no refusal
abbrev pub I : ℕ
I = 0

abbrev pub D : ℕ
D = 1

abbrev pub U : ℕ
U = 2

abbrev pub C : ℕ
C = 3

abbrev pub N : ℕ
N = 4

abbrev pub no-class : ℕ
no-class = 5

-- the number of each, and its class
abbrev pub row : Reason → ℕ × ℕ
row DegreeZero = (1, I)
row FewPoints = (2, I)
row KnotCount = (3, I)
row KnotsUnordered = (4, I)
row DomainEmpty = (5, D)
row DomainWide = (6, I)
row KnotRepeated = (7, I)
row PointNotFinite = (8, I)
row WeightCount = (9, I)
row WeightBad = (10, I)
row NetSize = (11, I)
row ParameterNotFinite = (12, I)
row KnotOutside = (13, I)
row KnotFull = (14, I)
row TrimBad = (15, I)
row DegreeLowered = (16, I)
row EndsUnclamped = (17, U)
row ElevationHigh = (18, C)
row ControlBad = (19, D)
row EditBad = (20, D)
row SecondNotFinite = (21, D)
row IsoOutside = (22, I)
row IsoWeightBad = (23, D)
row RangeBad = (24, I)
row RangeInNoSpan = (25, I)
row DenominatorZero = (26, U)
row WeightRatioLow = (27, U)
row QuotientNone = (28, D)
row WeightsApart = (29, N)
row LengthBad = (30, C)
row DegreeHigh = (31, C)
row PointsUneven = (32, I)
row RecordMalformed = (33, I)
row ParameterOutside = (43, I)

abbrev pub reasons : List Reason
reasons =
    DegreeZero ∷ FewPoints ∷ KnotCount ∷ KnotsUnordered ∷ DomainEmpty ∷ DomainWide ∷ KnotRepeated
    ∷ PointNotFinite ∷ WeightCount ∷ WeightBad ∷ NetSize ∷ ParameterNotFinite ∷ KnotOutside ∷ KnotFull
    ∷ TrimBad ∷ DegreeLowered ∷ EndsUnclamped ∷ ElevationHigh ∷ ControlBad ∷ EditBad ∷ SecondNotFinite
    ∷ IsoOutside ∷ IsoWeightBad ∷ RangeBad ∷ RangeInNoSpan ∷ DenominatorZero ∷ WeightRatioLow
    ∷ QuotientNone ∷ WeightsApart ∷ LengthBad ∷ DegreeHigh ∷ PointsUneven ∷ RecordMalformed
    ∷ ParameterOutside ∷ []

-- the class of a number: that of the row which has it
abbrev pub class_in : List Reason → ℕ → ℕ
class_in [] n = no-class
class_in (r ∷ rs) n = cond (eqb n (row r).0) (row r).1 (class_in rs n)

unfoldable pub class_of : ℕ → ℕ
class_of n = class_in reasons n

-- ---- what a call answers
-- a refusal by its number, of no direction and no place
abbrev pub numbered : ℕ → Refusal
numbered n = record { number = n; direction = 2; place = 0 }

abbrev pub refuse : Reason → Refusal
refuse r = numbered (row r).0

-- two intervals without a quotient: the divisor holds 0, or there is no interval of its reciprocals
abbrev pub refused_quotient : DivideError → Refusal
refused_quotient HoldsZero = refuse DenominatorZero
refused_quotient Unbounded = refuse QuotientNone

-- nothing is refused
abbrev pub accepted : Refusal
accepted = numbered 0

-- the same refusal, with the place of what it is for: of 4 and 7 a knot, of 8 a point, of 10 a weight
abbrev pub placed : ℕ → Refusal → Refusal
placed k r = record { number = r.number; direction = r.direction; place = k }

-- the same refusal, of a direction: u 0, v 1
abbrev pub along : ℕ → Refusal → Refusal
along d r = record { number = r.number; direction = d; place = r.place }

-- the first of two refusals
abbrev pub or_else : Refusal → Refusal → Refusal
or_else a b = cond (eqb a.number 0) b a

-- what a call that checks answers: nothing, or the refusal
unfoldable pub checked : Refusal → Result Unit Refusal
checked r = cond (eqb r.number 0) (Ok tt) (Err r)
