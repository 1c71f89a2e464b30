-- `evaluate::surface::surface_at` meets its contract.
-- Assumes nothing.
use Prim.Native.Nat.{◌-◌, ◌/◌}
use mathlib.Core.Path.{refl}
use native.Mathlib.Omega.{arith}
use lib.ListN.{length}
use Rattle.basis.proofs.Whole.{Reach}
use Rattle.evaluate.proofs.Nets.{corner-in}
use Rattle.evaluate.proofs.Surfaces.{surface-is}
use Rattle.evaluate.proofs.surface.surface_at.Goals as goal

pub net_scale-scale-requires : goal.net_scale-scale-requires
net_scale-scale-requires c = let q = c.requires in
    let f = c.ranges in
    record {
      p_bound = q.p_bound;
      q_bound = q.q_bound;
      net_reach = q.net_reach_2;
      p_bound_2 = omega arith;
    }

pub overflow_mul-corner : goal.overflow_mul-corner
overflow_mul-corner c = let a = c.args in
    let q = c.requires in
    let h = corner-in (length a.surface.points.now / 3) a.surface.v_count (a.s - a.surface.u_degree) a.surface.u_degree (a.t - a.surface.v_degree) a.surface.v_degree q.net_reach in
    omega arith

pub overflow_add-corner : goal.overflow_add-corner
overflow_add-corner c = let a = c.args in
    let q = c.requires in
    let h = corner-in (length a.surface.points.now / 3) a.surface.v_count (a.s - a.surface.u_degree) a.surface.u_degree (a.t - a.surface.v_degree) a.surface.v_degree q.net_reach in
    omega arith

pub point_at-o-requires : goal.point_at-o-requires
point_at-o-requires c = let a = c.args in
    let q = c.requires in
    let h = corner-in (length a.surface.points.now / 3) a.surface.v_count (a.s - a.surface.u_degree) a.surface.u_degree (a.t - a.surface.v_degree) a.surface.v_degree q.net_reach in
    omega arith

pub net_sums-c-requires : goal.net_sums-c-requires
net_sums-c-requires c = let q = c.requires in
    let f = c.ranges in
    record {
      i_bound = omega arith;
      j_bound = omega arith;
      p_bound = q.p_bound;
      q_bound = q.q_bound;
      net_reach = q.net_reach;
      net_reach_2 = q.net_reach_2;
      p_bound_2 = omega arith;
    }

pub net_sums-d-requires : goal.net_sums-d-requires
net_sums-d-requires c = let q = c.requires in
    let f = c.ranges in
    record {
      i_bound = omega arith;
      j_bound = omega arith;
      p_bound = q.p_bound;
      q_bound = q.q_bound;
      net_reach = q.net_reach;
      net_reach_2 = q.net_reach_2;
      p_bound_2 = omega arith;
    }

pub net_sums-e-requires : goal.net_sums-e-requires
net_sums-e-requires c = let q = c.requires in
    let f = c.ranges in
    record {
      i_bound = omega arith;
      j_bound = omega arith;
      p_bound = q.p_bound;
      q_bound = q.q_bound;
      net_reach = q.net_reach;
      net_reach_2 = q.net_reach_2;
      p_bound_2 = omega arith;
    }

pub returns : goal.returns
returns c = let a = c.args in
    let q = c.requires in
    let along-u : Reach 195 a.surface.u_degree 1 a.surface.u_knots.now a.s = record {
      degree = q.p_nonzero;
      high = q.p_bound;
      orders = omega arith;
      low = q.p_le_s;
      long = q.p_in_bounds;
      room = refl;
    } in
    let along-v : Reach 195 a.surface.v_degree 1 a.surface.v_knots.now a.t = record
    { degree = q.q_nonzero; high = q.q_bound; orders = omega arith; low = q.q_le_t; long = q.q_in_bounds; room = refl } in
    surface-is a.surface.u_degree a.surface.v_degree a.surface.u_knots.now a.surface.v_knots.now a.surface.v_count a.surface.points.now a.surface.rational a.surface.weights.now a.s a.t a.u a.v _ _
    along-u
    c.basis_derivatives.ensures along-v
    c.basis_derivatives-2.ensures _
    c.point_at-o.ensures _
    c.net_scale-scale.ensures
    _
    _ _ _ c.net_sums-c.ensures c.net_sums-d.ensures c.net_sums-e.ensures
    c.surface_quotient_of.ensures
