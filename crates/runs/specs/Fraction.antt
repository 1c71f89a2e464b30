-- A table's weights and coordinates as fractions.
use Rattle.std.specs.Prelude.{ℕ, Bool, List, Float}
use Rattle.exact.specs.Rational.{ℚ}
use Rattle.doubles.specs.Value.{val}
use Rattle.runs.specs.Coordinate.{coordinate}
use Rattle.runs.specs.Weight.{weight_at}

-- weight i, 1 where none are given
abbrev pub weight_value : Bool → List Float → ℕ → ℚ
weight_value g ws i = val (weight_at g ws i)

-- coordinate k, point by point
abbrev pub coordinate_value : List Float → ℕ → ℕ → ℚ
coordinate_value ps k i = val (coordinate ps i k)
