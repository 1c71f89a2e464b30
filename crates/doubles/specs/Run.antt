-- A run of doubles, read by its places.
use Rattle.std.specs.Prelude.{ℕ, List, get_or, Float}
use Rattle.std.specs.Float.{nan}
use Rattle.exact.specs.Rational.{ℚ}
use Rattle.doubles.specs.Value.{val}

-- the double at place k of a run; past its end, where no program reads, a NaN
abbrev pub at : List Float → ℕ → Float
at xs k = get_or xs k nan

-- the same as a fraction
abbrev pub val_at : List Float → ℕ → ℚ
val_at xs k = val (at xs k)
