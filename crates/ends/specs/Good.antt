-- What every interval is that a product or a sum of them gives: no NaN, in order, and no infinity on the wrong side. Definitions only.
use Rattle.std.specs.Prelude.{true, false, T, Float}
use Rattle.std.specs.Float.{inf, binary64}
use Rattle.std.specs.Float.Ieee.{fits, lt}
use Rattle.doubles.specs.Value.{◌⊑◌}
use Rattle.interval.specs.declared.Interval.{Interval}
use Rattle.jets.specs.declared.net.Control.{Control}

abbrev pub Held : Float → Type 0
Held x = T (fits binary64 x)

pub record Good (i : Interval) : Type 0 where
  pub low_held : Held i.lo
  pub high_held : Held i.hi
  pub low : T (lt i.lo (inf false))
  pub high : T (lt (inf true) i.hi)
  pub ordered : i.lo ⊑ i.hi

-- the four intervals of a point of a net
pub record GoodPoint (c : Control) : Type 0 where
  pub x : Good c.x.v
  pub y : Good c.y.v
  pub z : Good c.z.v
  pub w : Good c.w.v
