-- A control of a curve in homogeneous form, with the operations and the order of the source: each is one rounding of IEEE 754.
-- Assumes nothing.
use Rattle.std.specs.Prelude.{Bool, not, ◌&&◌, Float}
use Rattle.std.specs.Float.{binary64}
use Rattle.std.specs.Float.Ieee.{add, sub, mul, div, le}
use Rattle.std.specs.Float.Ieee.Scale.{finite}
use Rattle.doubles.specs.Value.{zero+, one+}
use Rattle.runs.specs.declared.vector.Vector.{Vector}
use Rattle.edits.specs.declared.control.Control.{Control}

-- a point q relative to o times its weight w, and the weight
unfoldable pub lift_of : Vector → Vector → Float → Control
lift_of o q w = record {
  x = mul binary64 (sub binary64 q.x o.x) w;
  y = mul binary64 (sub binary64 q.y o.y) w;
  z = mul binary64 (sub binary64 q.z o.z) w;
  w = w;
}

-- 19 is given where this fails of a control, and 20 where the next fails of an edited one
unfoldable pub is_lifted : Control → Bool
is_lifted q = finite q.x && (finite q.y && (finite q.z && not (le q.w zero+)))

unfoldable pub is_blended : Control → Bool
is_blended q = is_lifted q && finite q.w

-- how far t has come from the knot a to the knot b
unfoldable pub share_of : Float → Float → Float → Float
share_of t a b = div binary64 (sub binary64 t a) (sub binary64 b a)

-- a (1 - s) + b s, number by number
abbrev pub mix : Float → Float → Float → Float
mix a b s = add binary64 (mul binary64 a (sub binary64 one+ s)) (mul binary64 b s)

unfoldable pub blend_of : Control → Control → Float → Control
blend_of a b s = record { x = mix a.x b.x s; y = mix a.y b.y s; z = mix a.z b.z s; w = mix a.w b.w s }

-- back: the point of a control that is relative to o
unfoldable pub lower_of : Vector → Control → Vector
lower_of o q = record {
  x = add binary64 o.x (div binary64 q.x q.w);
  y = add binary64 o.y (div binary64 q.y q.w);
  z = add binary64 o.z (div binary64 q.z q.w);
}

-- its first three numbers
abbrev pub vector_of : Control → Vector
vector_of q = record { x = q.x; y = q.y; z = q.z }
