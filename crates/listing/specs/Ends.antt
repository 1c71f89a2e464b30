-- Both ends of an interval, by their bits or as decimals, and the room that they need.
-- Assumes nothing.
use Rattle.std.specs.Prelude.{ℕ, Bool, true, false, List}
use Rattle.interval.specs.declared.Interval.{Interval}
use Rattle.listing.specs.Boxes.{spaced_ends, spaced_decimals}

abbrev pub ends_text : Bool → Interval → List ℕ
ends_text false = spaced_ends
ends_text true = spaced_decimals

unfoldable pub ends_room : Bool → ℕ
ends_room false = 34
ends_room true = 662
