-- `evaluate::surface::surface_found` meets its contract.
-- Assumes nothing.
use Prim.Native.Nat.{ℕ}
use mathlib.Core.Path.{sym, ◌∙◌, ap₂, subst}
use Rattle.knots.specs.Span.{clamped, searched}
use Rattle.evaluate.specs.Surface.{surface_of, surface_found}
use Rattle.evaluate.proofs.Steps.{Found, found}
use Rattle.evaluate.proofs.Surfaces.{surface-shaped, points-net, weights-net}
use Rattle.evaluate.proofs.surface.surface_found.Goals as goal

pub surface_at-requires : goal.surface_at-requires
surface_at-requires c = let h = c.requires in
    let a = c.args in
    let o = surface-shaped a.surface.u_degree a.surface.v_degree a.surface.u_knots.now a.surface.v_knots.now a.surface.u_count a.surface.v_count a.surface.points.now a.surface.rational a.surface.weights.now h.weights_value in
    let s =
    subst
    (Found a.surface.u_degree a.surface.u_count a.surface.u_knots.now) (sym c.span_of-s.ensures.found) (found a.surface.u_degree a.surface.u_count a.surface.u_knots.now o.u (clamped a.surface.u_degree a.surface.u_count a.surface.u_knots.now a.u)) in
    let t = subst (Found a.surface.v_degree a.surface.v_count a.surface.v_knots.now) (sym c.span_of-t.ensures.found) (found a.surface.v_degree a.surface.v_count a.surface.v_knots.now o.v (clamped a.surface.v_degree a.surface.v_count a.surface.v_knots.now a.v)) in
    record {
      p_nonzero = o.u.degree;
      q_nonzero = o.v.degree;
      p_bound = h.p_bound;
      q_bound = h.q_bound;
      p_le_s = s.from;
      q_le_t = t.from;
      p_in_bounds = s.reach;
      q_in_bounds = t.reach;
      net_reach = points-net a.surface.u_degree a.surface.v_degree a.surface.u_knots.now a.surface.v_knots.now a.surface.u_count a.surface.v_count a.surface.points.now a.surface.rational a.surface.weights.now o _ _ s t;
      net_reach_2 = weights-net a.surface.u_degree a.surface.v_degree a.surface.u_knots.now a.surface.v_knots.now a.surface.u_count a.surface.v_count a.surface.points.now a.surface.rational a.surface.weights.now o _ _ s t;
    }

pub returns : goal.returns
unfolding surface_found
returns c = let a = c.args in
    let x = c.clamp-x.result in
    let y = c.clamp-y.result in
    c.surface_at.ensures
    ∙ (ap₂ (λ (i j : ℕ). surface_of a.surface.u_degree a.surface.v_degree a.surface.u_knots.now a.surface.v_knots.now a.surface.v_count a.surface.points.now a.surface.rational a.surface.weights.now i j x y)
    c.span_of-s.ensures.found c.span_of-t.ensures.found
    ∙ ap₂
    (surface_of a.surface.u_degree a.surface.v_degree a.surface.u_knots.now a.surface.v_knots.now a.surface.v_count a.surface.points.now a.surface.rational a.surface.weights.now (searched a.surface.u_degree a.surface.u_count a.surface.u_knots.now (clamped a.surface.u_degree a.surface.u_count a.surface.u_knots.now a.u))
    (searched a.surface.v_degree a.surface.v_count a.surface.v_knots.now (clamped a.surface.v_degree a.surface.v_count a.surface.v_knots.now a.v)))
    c.clamp-x.ensures c.clamp-y.ensures)
