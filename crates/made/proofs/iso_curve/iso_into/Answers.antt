-- `made::iso_curve::iso_into` meets its contract.
-- Assumes nothing.
use mathlib.Core.Bool.{Bool, true, false}
use Rattle.made.proofs.IsoCurves.{HeldOpen, held-open, chosen}
use mathlib.Core.Path.{subst}
use lib.ListN.{length}
use Rattle.made.proofs.iso_curve.iso_into.Goals as goal

pub iso_along-requires : goal.iso_along-requires
iso_along-requires c = let a = c.args in
    let q = c.requires in
    let o =
    subst
    (λ (x : Bool). HeldOpen a.surface.u_degree a.surface.v_degree a.surface.u_knots.now a.surface.v_knots.now a.surface.u_count a.surface.v_count a.surface.points.now a.surface.rational
    a.surface.weights.now x a.t (length a.out_points.now) (length a.out_weights.now))
    c.if-constant_u.true
    (held-open
    a.surface.u_degree a.surface.v_degree a.surface.u_knots.now a.surface.v_knots.now a.surface.u_count a.surface.v_count a.surface.points.now a.surface.rational a.surface.weights.now a.t
    (length a.out_points.now) (length a.out_weights.now) a.constant_u q.out_weights_value)
    in
    record {
      degree_bound = o.high;
      valid_knots = o.knots;
      t_value = o.inside;
      by_index = o.places;
      k_in_bounds = o.weights;
      other_count_in_bounds = o.points-room;
      other_count_in_bounds_2 = o.weights-room;
      other_count_bound = o.few;
      out_points_value = q.out_points_value;
      out_weights_value = q.out_weights_value_2;
    }

pub returns-then-constant_u : goal.returns-then-constant_u
returns-then-constant_u c = let a = c.args in
    chosen
    a.surface.u_degree a.surface.v_degree a.surface.u_knots.now a.surface.v_knots.now a.surface.u_count a.surface.v_count a.surface.points.now a.surface.rational a.surface.weights.now a.t
    (length a.out_points.now) (length a.out_weights.now) a.constant_u true c.if-constant_u.true _ _ _
    c.iso_along.ensures

pub iso_along-requires-2 : goal.iso_along-requires-2
iso_along-requires-2 c = let a = c.args in
    let q = c.requires in
    let o =
    subst
    (λ (x : Bool). HeldOpen a.surface.u_degree a.surface.v_degree a.surface.u_knots.now a.surface.v_knots.now a.surface.u_count a.surface.v_count a.surface.points.now a.surface.rational
    a.surface.weights.now x a.t (length a.out_points.now) (length a.out_weights.now))
    c.if-constant_u.false
    (held-open
    a.surface.u_degree a.surface.v_degree a.surface.u_knots.now a.surface.v_knots.now a.surface.u_count a.surface.v_count a.surface.points.now a.surface.rational a.surface.weights.now a.t
    (length a.out_points.now) (length a.out_weights.now) a.constant_u q.out_weights_value)
    in
    record {
      degree_bound = o.high;
      valid_knots = o.knots;
      t_value = o.inside;
      by_index = o.places;
      k_in_bounds = o.weights;
      other_count_in_bounds = o.points-room;
      other_count_in_bounds_2 = o.weights-room;
      other_count_bound = o.few;
      out_points_value = q.out_points_value;
      out_weights_value = q.out_weights_value_2;
    }

pub returns : goal.returns
returns c = let a = c.args in
    chosen
    a.surface.u_degree a.surface.v_degree a.surface.u_knots.now a.surface.v_knots.now a.surface.u_count a.surface.v_count a.surface.points.now a.surface.rational a.surface.weights.now a.t
    (length a.out_points.now) (length a.out_weights.now) a.constant_u false c.if-constant_u.false _ _ _
    c.iso_along-2.ensures
