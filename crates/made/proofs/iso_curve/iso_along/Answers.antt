-- `made::iso_curve::iso_along` meets its contract.
-- Assumes nothing.
use Prim.Native.Nat.{◌/◌}
use mathlib.Core.Path.{refl}
use native.Mathlib.Omega.{arith}
use lib.ListN.{length}
use Rattle.basis.proofs.Whole.{Reach}
use Rattle.made.specs.IsoCurve.{side_from}
use Rattle.made.proofs.IsoCurves.{within, hull-is, strip-in, along-stopped, along-formed}
use Rattle.knots.proofs.Searches.{span-found}
use Rattle.made.proofs.iso_curve.iso_along.Goals as goal

pub overflow_sub-strip : goal.overflow_sub-strip
overflow_sub-strip c = let a = c.args in
    let q = c.requires in
    let w = within a.held.degree a.held.count a.fixed.now a.held.t q.t_value in
    let s = span-found a.held.degree a.held.count a.fixed.now a.held.t q.valid_knots w _ c.span_of-span.ensures in
    let f = s.0.from in
    let b = s.0.below in
    let l = q.valid_knots.long in
    omega arith

pub iso_fill-good-requires : goal.iso_fill-good-requires
iso_fill-good-requires c = let a = c.args in
    let q = c.requires in
    let w = within a.held.degree a.held.count a.fixed.now a.held.t q.t_value in
    let s = span-found a.held.degree a.held.count a.fixed.now a.held.t q.valid_knots w _ c.span_of-span.ensures in
    let f = s.0.from in
    let b = s.0.below in
    let l = q.valid_knots.long in
    let g = c.well_formed in
    record {
      p_bound = q.degree_bound;
      p_bound_2 = omega arith;
      by_index = strip-in
          a.surface.points.now a.surface.rational a.surface.weights.now a.held.constant_u a.held.columns (length a.surface.points.now / 3) a.held.degree
          c.span_of-span.result a.held.count a.held.other_count f b q.by_index;
      iso_reach = (λ e. strip-in a.surface.points.now a.surface.rational a.surface.weights.now a.held.constant_u a.held.columns (length a.surface.weights.now) a.held.degree
          c.span_of-span.result a.held.count a.held.other_count f b (q.k_in_bounds e));
      count_in_bounds = q.other_count_in_bounds;
      count_in_bounds_2 = q.other_count_in_bounds_2;
      count_bound = q.other_count_bound;
    }

pub returns-then-not-good : goal.returns-then-not-good
returns-then-not-good c = let d = c.span_of-span in
    let a = c.args in
    let q = c.requires in
    let w = within a.held.degree a.held.count a.fixed.now a.held.t q.t_value in
    let s =
    span-found
    a.held.degree a.held.count a.fixed.now a.held.t q.valid_knots w _
    d.ensures in
    let f = s.0.from in
    let b = s.0.below in
    let l = q.valid_knots.long in
    let reach : Reach 195 a.held.degree 0 a.fixed.now d.result = record { degree = q.valid_knots.degree; high = q.degree_bound; orders = omega arith; low = f; long = omega arith; room = refl } in
    along-stopped
    _ _ (side_from a.held.degree a.held.count a.fixed.now a.held.other_degree a.held.other_count a.other.now) a.out_points.now a.out_weights.now _ _ _
    (hull-is
    a.surface.points.now a.surface.rational a.surface.weights.now a.held.constant_u a.held.columns
    (side_from a.held.degree a.held.count a.fixed.now a.held.other_degree a.held.other_count a.other.now) a.held.t
    d.result s.1 reach _
    c.basis_derivatives.ensures)
    c.iso_fill-good.ensures c.if-not-good.true _ c.refuse.ensures

pub overflow_mul-count : goal.overflow_mul-count
overflow_mul-count c = let a = c.args in
    let q = c.requires in
    let w = within a.held.degree a.held.count a.fixed.now a.held.t q.t_value in
    let s =
    span-found
    a.held.degree a.held.count a.fixed.now a.held.t q.valid_knots w _
    c.span_of-span.ensures in
    let f = s.0.from in
    let b = s.0.below in
    let l = q.valid_knots.long in
    let c = q.other_count_bound in
    omega arith

pub made_refusal-requires : goal.made_refusal-requires
made_refusal-requires c = let q = c.requires in
    let x = c.out_points-1.given in
    let y = c.out_weights-1.given in
    let c = q.other_count_in_bounds in
    let d = q.other_count_in_bounds_2 in
    record {
      a_in_bounds = omega arith;
      b_in_bounds = omega arith;
      c_in_bounds = omega arith;
    }

pub returns : goal.returns
returns c = let d = c.span_of-span in
    let a = c.args in
    let q = c.requires in
    let w = within a.held.degree a.held.count a.fixed.now a.held.t q.t_value in
    let s =
    span-found
    a.held.degree a.held.count a.fixed.now a.held.t q.valid_knots w _
    d.ensures in
    let f = s.0.from in
    let b = s.0.below in
    let l = q.valid_knots.long in
    let reach : Reach 195 a.held.degree 0 a.fixed.now d.result = record { degree = q.valid_knots.degree; high = q.degree_bound; orders = omega arith; low = f; long = omega arith; room = refl } in
    along-formed
    _ _ (side_from a.held.degree a.held.count a.fixed.now a.held.other_degree a.held.other_count a.other.now) a.out_points.now a.out_weights.now _ _ _
    (hull-is
    a.surface.points.now a.surface.rational a.surface.weights.now a.held.constant_u a.held.columns
    (side_from a.held.degree a.held.count a.fixed.now a.held.other_degree a.held.other_count a.other.now) a.held.t
    d.result s.1 reach _
    c.basis_derivatives.ensures)
    c.iso_fill-good.ensures c.if-not-good.false q.out_points_value
    q.out_weights_value _ refl _ c.made_refusal.ensures
