-- A weight over a scale.
-- Assumes nothing.
use Rattle.std.specs.Prelude.{ℕ, Bool, cond, List, Float}
use Rattle.std.specs.Float.{binary64}
use Rattle.std.specs.Float.Ieee.{div}
use Rattle.doubles.specs.Run.{at}
use Rattle.doubles.specs.Value.{one+}

-- weight i over the scale m, and 1.0 where none are given
unfoldable pub weight_of : Bool → List Float → Float → ℕ → Float
weight_of g ws m i = cond g (div binary64 (at ws i) m) one+
