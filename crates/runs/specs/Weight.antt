-- The weights of a curve or a surface.
-- Assumes nothing.
use Rattle.std.specs.Prelude.{ℕ, Bool, cond, List, Float}
use Rattle.doubles.specs.Run.{at}
use Rattle.doubles.specs.Value.{one+}

-- weight i, and 1.0 where none are given
unfoldable pub weight_at : Bool → List Float → ℕ → Float
weight_at g ws i = cond g (at ws i) one+
