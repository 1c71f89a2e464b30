-- The tests of a run's numbers, by a flag: of one number that it is finite or a weight, of two that the one does not exceed the other or is below it. Definitions only.
use Rattle.std.specs.Prelude.{Bool, true, not, cond, List, Float}
use Rattle.std.specs.Float.Ieee.{lt, le}
use Rattle.std.specs.Float.Ieee.Scale.{finite}
use Rattle.doubles.specs.Value.{zero+}
use Rattle.knots.specs.Knots.{all_finite}
use Rattle.knots.specs.Curve.{is_weight, all_weights}

-- what a weight is asked beside being finite
abbrev pub above : Bool → Float → Bool
above weight x = cond weight (lt zero+ x) true

-- a number that the run may have
abbrev pub fine : Bool → Float → Bool
fine weight x = cond weight (is_weight x) (finite x)

abbrev pub all_fine : Bool → List Float → Bool
all_fine weight xs = cond weight (all_weights xs) (all_finite xs)

-- one does not exceed the other; where `strict`, it is not at least it either
abbrev pub before : Bool → Float → Float → Bool
before strict a b = not (cond strict (le b a) (lt b a))
