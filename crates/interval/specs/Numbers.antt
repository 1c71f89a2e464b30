-- The numbers of an answer, case by case: the low end before the high one, and none where there is no interval. Definitions only.
use Rattle.std.specs.Prelude.{List, [], ◌∷◌, Float, Option, Some, None, Result, Ok, Err}
use Rattle.interval.specs.declared.Interval.{Interval}
use Rattle.interval.specs.declared.DivideError.{DivideError}

-- both ends, then xs
abbrev pub ends_onto : Interval → List Float → List Float
ends_onto i xs = i.lo ∷ i.hi ∷ xs

abbrev pub new_values : Option Interval → List Float
new_values (Some i) = ends_onto i []
new_values None = []

abbrev pub quotient_values : Result Interval DivideError → List Float
quotient_values (Ok i) = ends_onto i []
quotient_values (Err e) = []
