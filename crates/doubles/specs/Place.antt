-- The place of a double in the order of all doubles: a whole number, 0 for both zeros (and for a NaN), one more for the next double up.
use Rattle.std.specs.Prelude.{ℕ, suc, ◌-◌, ◌*◌, Bool, false, cond, ℤ, pos, negsuc, ◌-ℤ◌, Float}
use Rattle.std.specs.Float.{nan, inf, fin, Format, binary64}
use Rattle.std.specs.Float.Ieee.{hid, ones, to_bits, le}
use Rattle.doubles.specs.Value.{signed}

abbrev pub sign_bit : Float → Bool
sign_bit nan = false
sign_bit (inf s) = s
sign_bit (fin s m e) = s

-- the infinity's pattern without its sign
abbrev pub inf_pat : Format → ℕ
inf_pat f = ones f * hid f

-- the pattern without its sign
abbrev pub mag : Format → Float → ℕ
mag f nan = 0
mag f (inf s) = inf_pat f
mag f (fin s m e) = to_bits f (fin false m e)

abbrev pub place : Format → Float → ℤ
place f x = signed (sign_bit x) (mag f x)

-- how many steps to the next double lead from lo up to hi; none where lo <= hi fails
unfoldable pub steps_of : Float → Float → ℤ
steps_of lo hi = cond (le lo hi) (place binary64 hi -ℤ place binary64 lo) (pos 0)

-- a whole number as a pattern of 64 bits: below 0 it is counted down from 2 ^ 64
abbrev pub wrapped : ℤ → ℕ
wrapped (pos n) = n
wrapped (negsuc n) = 18446744073709551616 - suc n
