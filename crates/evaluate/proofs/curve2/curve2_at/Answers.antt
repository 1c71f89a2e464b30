-- `evaluate::curve2::curve2_at` meets its contract.
-- Assumes nothing.
use mathlib.Core.Path.{refl}
use native.Mathlib.Omega.{arith}
use Rattle.basis.proofs.Whole.{Reach}
use Rattle.evaluate.proofs.Curves.{curve2-is}
use Rattle.evaluate.proofs.curve2.curve2_at.Goals as goal

pub scale_at-scale-requires : goal.scale_at-scale-requires
scale_at-scale-requires c = λ g. let h = c.requires.span_in_bounds_2 g in omega arith

pub row_sums-a-requires : goal.row_sums-a-requires
row_sums-a-requires c = let q = c.requires in
    record {
      k_bound = omega arith;
      p_bound = omega arith;
      p_in_bounds = omega arith;
      p_in_bounds_2 = (λ g. let h = q.span_in_bounds_2 g in omega arith);
    }

pub row_sums-d-requires : goal.row_sums-d-requires
row_sums-d-requires c = let q = c.requires in
    record {
      k_bound = omega arith;
      p_bound = omega arith;
      p_in_bounds = omega arith;
      p_in_bounds_2 = (λ g. let h = q.span_in_bounds_2 g in omega arith);
    }

pub row_sums-e-requires : goal.row_sums-e-requires
row_sums-e-requires c = let q = c.requires in
    record {
      k_bound = omega arith;
      p_bound = omega arith;
      p_in_bounds = omega arith;
      p_in_bounds_2 = (λ g. let h = q.span_in_bounds_2 g in omega arith);
    }

pub returns : goal.returns
returns c = let a = c.args in
    let q = c.requires in
    let reach : Reach 195 a.curve.degree 2 a.curve.knots.now a.span = record { degree = q.p_nonzero; high = q.p_bound; orders = omega arith; low = q.p_le_span; long = q.p_in_bounds; room = refl } in
    curve2-is
    a.curve.degree 2 a.curve.knots.now a.curve.points.now a.curve.rational a.curve.weights.now a.span a.u reach _
    c.basis_derivatives.ensures _ c.scale_at-scale.ensures
    (omega arith)
    _ _ _ _ _ c.point_at-o.ensures c.row_sums-a.ensures
    c.row_sums-d.ensures c.row_sums-e.ensures c.quotient2_of.ensures
