-- The doubles next to a double (IEEE 754-2019, 5.3.1), and Rust's f64::min, max and abs, over the values of `lib.Ieee`.
use Rattle.std.specs.Prelude.{zero, suc, ◌+◌, ◌-◌, true, false, ◌||◌, cond, Float}
use Rattle.std.specs.Float.{nan, inf, fin, Format, binary64}
use Rattle.std.specs.Float.Ieee.{neg, lt, is_nan, of_bits, to_bits}

-- The next one up, by its bits: one more where the sign is clear, one less where it is set; from either zero the smallest positive value. A NaN and +∞ are their own
unfoldable pub up_from : Format → Float → Float
up_from f nan = nan
up_from f (inf true) = of_bits f (to_bits f (inf true) - 1)
up_from f (inf false) = inf false
up_from f (fin s zero e) = of_bits f 1
up_from f (fin true (suc m) e) = of_bits f (to_bits f (fin true (suc m) e) - 1)
up_from f (fin false (suc m) e) = of_bits f (to_bits f (fin false (suc m) e) + 1)

unfoldable pub down_from : Format → Float → Float
down_from f x = neg (up_from f (neg x))

abbrev pub next_up : Float → Float
next_up x = up_from binary64 x

abbrev pub next_down : Float → Float
next_down x = down_from binary64 x

-- of a NaN and a number the number; of two equal values the first
abbrev pub fmin : Float → Float → Float
fmin a b = cond (lt b a || is_nan a) b a

abbrev pub fmax : Float → Float → Float
fmax a b = cond (lt a b || is_nan a) b a

-- of four, from an infinity on, as a fold takes them
abbrev pub least4 : Float → Float → Float → Float → Float
least4 p q r s = fmin (fmin (fmin (fmin (inf false) p) q) r) s

abbrev pub greatest4 : Float → Float → Float → Float → Float
greatest4 p q r s = fmax (fmax (fmax (fmax (inf true) p) q) r) s

-- the sign cleared
abbrev pub fabs : Float → Float
fabs nan = nan
fabs (inf s) = inf false
fabs (fin s m e) = fin false m e
