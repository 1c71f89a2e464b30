-- Bounds by their numbers in a row, low before high: x, y and z of the point, then of du, then of dv. Definitions only.
use Rattle.std.specs.Prelude.{ℕ, ◌+◌, Float}
use Rattle.bounds.specs.declared.answer.Triple.{Triple}
use Rattle.bounds.specs.declared.answer.NurbsBounds.{NurbsBounds}

-- three intervals by the six numbers from place k on
abbrev pub triple_by : (ℕ → Float) → ℕ → Triple
triple_by f k = record { x = record { lo = f k; hi = f (k + 1) }; y = record { lo = f (k + 2); hi = f (k + 3) }; z = record { lo = f (k + 4); hi = f (k + 5) } }

abbrev pub bounds_by : (ℕ → Float) → NurbsBounds
bounds_by f = record { point = triple_by f 0; du = triple_by f 6; dv = triple_by f 12 }
