-- De Boor's step on points of a net without derivatives, by the ends of their intervals. Definitions only.
use Rattle.std.specs.Prelude.{◌&&◌, cond, Result, Ok, Err}
use Rattle.doubles.specs.Value.{one+}
use Rattle.interval.specs.Ops.{point_of, add_of, sub_of, mul_of}
use Rattle.interval.specs.declared.Interval.{Interval}
use Rattle.knots.specs.declared.refusal.Refusal.{Refusal}
use Rattle.jets.specs.declared.jet.Jet.{Jet}
use Rattle.jets.specs.declared.net.Control.{Control}
use Rattle.ends.specs.declared.ends.Ends.{Ends}
use Rattle.ends.specs.declared.factor.Factor.{Factor}
use Rattle.ends.specs.declared.flat.Flat.{Flat}
use Rattle.ends.specs.Ends.{ends_of, interval_by, sum_of, factor_of, is_factor, times_of}

-- a point of the net with its derivatives left out
abbrev pub flat_of : Control → Flat
flat_of c = record { x = ends_of c.x.v; y = ends_of c.y.v; z = ends_of c.z.v; w = ends_of c.w.v }

abbrev pub flat_net : Result Control Refusal → Result Flat Refusal
flat_net (Ok c) = Ok (flat_of c)
flat_net (Err r) = Err r

unfoldable pub dot_of : Factor → Ends → Factor → Ends → Ends
dot_of p a q b = sum_of (times_of p a) (times_of q b)

unfoldable pub dot_by : Interval → Ends → Interval → Ends → Ends
dot_by beta a alpha b = ends_of (add_of (mul_of beta (interval_by a)) (mul_of alpha (interval_by b)))

abbrev pub shared : Factor → Flat → Factor → Flat → Flat
shared p a q b = record { x = dot_of p a.x q b.x; y = dot_of p a.y q b.y; z = dot_of p a.z q b.z; w = dot_of p a.w q b.w }

abbrev pub mixed_by : Interval → Flat → Interval → Flat → Flat
mixed_by beta a alpha b = record { x = dot_by beta a.x alpha b.x; y = dot_by beta a.y alpha b.y; z = dot_by beta a.z alpha b.z; w = dot_by beta a.w alpha b.w }

-- (1 - alpha) a + alpha b, by factors where both are such
unfoldable pub flat_mix : Interval → Flat → Flat → Flat
flat_mix alpha a b =
    let beta = sub_of (point_of one+) alpha in
    cond (is_factor (factor_of beta) && is_factor (factor_of alpha)) (shared (factor_of beta) a (factor_of alpha) b) (mixed_by beta a alpha b)

-- two neighbours under their share, or its refusal
abbrev pub flat_neighbours : Result Jet Refusal → Flat → Flat → Result Flat Refusal
flat_neighbours (Ok alpha) a b = Ok (flat_mix alpha.v a b)
flat_neighbours (Err r) a b = Err r
