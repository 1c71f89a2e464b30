-- Intervals by how far they reach below and above 0, and the operations on them, to the bit. Definitions only.
use Rattle.std.specs.Prelude.{pos, Bool, false, ◌&&◌, cond, Float, Option, Some, None}
use Rattle.std.specs.Float.{fin, binary64}
use Rattle.std.specs.Float.Ieee.{neg, lt, ne, add, mul}
use Rattle.std.specs.Float.Ieee.Scale.{finite}
use Rattle.doubles.specs.Value.{zero+}
use Rattle.doubles.specs.Neighbour.{next_up}
use Rattle.interval.specs.Ops.{entire, new_of}
use Rattle.interval.specs.declared.Interval.{Interval}
use Rattle.ends.specs.declared.ends.Ends.{Ends}
use Rattle.ends.specs.declared.factor.Factor.{Factor}

-- the largest finite double
abbrev pub greatest : Float
greatest = fin false 9007199254740991 (pos 971)

abbrev pub capped_of : Float → Float
capped_of x = cond (lt x greatest) x greatest

-- the double above; infinity for infinity and for a NaN
unfoldable pub step_of : Float → Float
step_of x = next_up (capped_of x)

abbrev pub ends_of : Interval → Ends
ends_of i = record { under = neg i.lo; over = i.hi }

abbrev pub whole_by : Option Interval → Interval
whole_by (Some i) = i
whole_by None = entire

abbrev pub interval_by : Ends → Interval
interval_by e = whole_by (new_of (neg e.under) e.over)

unfoldable pub sum_of : Ends → Ends → Ends
sum_of a b = record { under = step_of (add binary64 a.under b.under); over = step_of (add binary64 a.over b.over) }

-- ---- products
abbrev pub most_of : Float → Float → Float
most_of a b = cond (lt a b) b a

abbrev pub factor_of : Interval → Factor
factor_of i = record { low = i.lo; high = i.hi }

-- neither 0 nor infinite
abbrev pub is_part : Float → Bool
is_part x = finite x && ne x zero+

unfoldable pub is_factor : Factor → Bool
is_factor f = is_part f.low && is_part f.high

-- the largest of the opposites of the four products of ends, and of the products
unfoldable pub times_of : Factor → Ends → Ends
times_of f v =
    let a = mul binary64 f.low v.under in
    let b = mul binary64 f.low v.over in
    let c = mul binary64 f.high v.under in
    let d = mul binary64 f.high v.over in
    record { under = step_of (most_of (most_of a (neg b)) (most_of c (neg d))); over = step_of (most_of (most_of (neg a) b) (most_of (neg c) d)) }
