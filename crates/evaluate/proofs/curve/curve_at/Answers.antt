-- `evaluate::curve::curve_at` meets its contract.
-- Assumes nothing.
use Rattle.basis.proofs.Whole.{Reach}
use mathlib.Core.Path.{refl}
use native.Mathlib.Omega.{arith}
use Rattle.evaluate.proofs.Curves.{curve-is}
use Rattle.evaluate.proofs.curve.curve_at.Goals as goal

pub scale_at-scale-requires : goal.scale_at-scale-requires
scale_at-scale-requires c = (λ g. let h = c.requires.span_in_bounds_2 g in omega arith)

pub value_and_slope-s-requires : goal.value_and_slope-s-requires
value_and_slope-s-requires c = let q = c.requires in
    record {
      p_bound = omega arith;
      p_in_bounds = omega arith;
      p_in_bounds_2 = λ g. let h = q.span_in_bounds_2 g in omega arith;
    }

pub returns : goal.returns
returns c = let a = c.args in
    let q = c.requires in
    let reach : Reach 195 a.curve.degree 1 a.curve.knots.now a.span = record { degree = q.p_nonzero; high = q.p_bound; orders = omega arith; low = q.p_le_span; long = q.p_in_bounds; room = refl } in
    curve-is a.curve.degree 1 a.curve.knots.now a.curve.points.now a.curve.rational a.curve.weights.now a.span a.u reach _
    c.basis_derivatives.ensures _ c.scale_at-scale.ensures (omega arith) _ _ _ _
    c.point_at-o.ensures c.value_and_slope-s.ensures.value_value c.value_and_slope-s.ensures.slope_value c.quotient_of.ensures
