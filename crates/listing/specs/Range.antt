-- The next nonempty span with its knots, for what is shown of it.
-- Assumes nothing.
use Rattle.std.specs.Prelude.{Option, Some, None}
use Rattle.listing.specs.declared.Range.{Range}
use Rattle.std.specs.Prelude.{ℕ, ◌+◌, List, Float}
use Rattle.doubles.specs.Run.{at}

abbrev pub range_of : List Float → Option ℕ → Option Range
range_of ks (Some s) = Some (record { span = s; lower = at ks s; upper = at ks (s + 1) })
range_of ks None = None
