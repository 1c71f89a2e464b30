-- Jets over intervals of doubles: what the source's Jet computes, operation by operation. Definitions only.
use Rattle.interval.specs.declared.Interval.{Interval}
use Rattle.doubles.specs.Value.{zero+, one+}
use Rattle.interval.specs.Ops.{point_of, add_of, sub_of, mul_of}
use Rattle.jets.specs.declared.jet.Jet.{Jet}

unfoldable pub constant_of : Interval → Jet
constant_of v = record { v = v; du = point_of zero+; dv = point_of zero+ }

-- the parameter, and for a surface its first one
unfoldable pub parameter_of : Interval → Jet
parameter_of range = record { v = range; du = point_of one+; dv = point_of zero+ }

-- the second parameter as a jet
unfoldable pub second_of : Interval → Jet
second_of range = record { v = range; du = point_of zero+; dv = point_of one+ }

unfoldable pub jet_sub : Jet → Jet → Jet
jet_sub a b = record { v = sub_of a.v b.v; du = sub_of a.du b.du; dv = sub_of a.dv b.dv }

unfoldable pub jet_add : Jet → Jet → Jet
jet_add a b = record { v = add_of a.v b.v; du = add_of a.du b.du; dv = add_of a.dv b.dv }

unfoldable pub jet_mul : Jet → Jet → Jet
jet_mul a b = record {
  v = mul_of a.v b.v;
  du = add_of (mul_of a.du b.v) (mul_of a.v b.du);
  dv = add_of (mul_of a.dv b.v) (mul_of a.v b.dv);
}

unfoldable pub jet_scale : Jet → Interval → Jet
jet_scale a b = record { v = mul_of a.v b; du = mul_of a.du b; dv = mul_of a.dv b }
