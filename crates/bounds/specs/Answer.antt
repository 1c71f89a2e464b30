-- What a bound answers, case by case.
use Rattle.std.specs.Prelude.{Result, Ok, Err}
use Rattle.knots.specs.declared.refusal.Refusal.{Refusal}
use Rattle.jets.specs.declared.cartesian.Bounds.{Bounds}
use Rattle.interval.specs.declared.Interval.{Interval}
use Rattle.bounds.specs.declared.answer.Triple.{Triple}
use Rattle.bounds.specs.declared.answer.NurbsBounds.{NurbsBounds}

abbrev pub triple_of : Interval → Interval → Interval → Triple
triple_of x y z = record { x = x; y = y; z = z }

-- by point and derivatives, and not by coordinate
unfoldable pub bounds_of : Bounds → NurbsBounds
bounds_of b = record {
  point = triple_of b.x.v b.y.v b.z.v;
  du = triple_of b.x.du b.y.du b.z.du;
  dv = triple_of b.x.dv b.y.dv b.z.dv;
}

abbrev pub bounded_of : Result Bounds Refusal → Result NurbsBounds Refusal
bounded_of (Ok b) = Ok (bounds_of b)
bounded_of (Err r) = Err r

-- three intervals of a point, or the refusal
abbrev pub point_bounded_of : Result Triple Refusal → Result Triple Refusal
point_bounded_of a = a
