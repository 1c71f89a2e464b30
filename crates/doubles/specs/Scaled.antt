-- Finite doubles as whole numbers, with no fractions: what a format holds is a whole number of its smallest positive value, which of f64 is 2 ^ -1074. Definitions only.
use Rattle.std.specs.Prelude.{ℕ, ◌*◌, ◌/◌, ◌^◌, T, ℤ, pos, ◌*ℤ◌, ◌≤ℤ◌, Float}
use Rattle.std.specs.Float.{nan, inf, fin, Format}
use Rattle.std.specs.Float.Ieee.{low, up, down}
use Rattle.std.specs.Float.Ieee.Scale.{finite}
use Rattle.doubles.specs.Value.{signed}
use Rattle.doubles.specs.Neighbour.{up_from, down_from}

-- x * 2 ^ 1074, of an f64; 0 for an infinity and a NaN, of which nothing is said
unfoldable pub scaled : Format → Float → ℤ
scaled f nan = pos 0
scaled f (inf s) = pos 0
scaled f (fin s m e) = signed s (m * up e * 2 ^ low f / down e)

-- n / d, counted in the same unit, lies between the doubles next to r. One that is infinite sets no limit
pub record Between (f : Format) (r : Float) (n : ℤ) (d : ℕ) : Type 0 where
  pub low : T (finite (down_from f r)) → (scaled f (down_from f r) *ℤ pos d) ≤ℤ n
  pub high : T (finite (up_from f r)) → n ≤ℤ (scaled f (up_from f r) *ℤ pos d)
