-- `evaluate::curve::found_at` meets its contract.
-- Assumes nothing.
use mathlib.Core.Path.{◌∙◌, ap₂}
use Rattle.evaluate.specs.Curve.{curve_of, found_of}
use Rattle.evaluate.proofs.Steps.{found-reach}
use Rattle.evaluate.proofs.curve.found_at.Goals as goal

pub curve_at-requires : goal.curve_at-requires
curve_at-requires c = let all = let q = c.requires in
    let a = c.args in
    found-reach a.curve.degree a.curve.knots.now a.curve.points.now a.curve.rational a.curve.weights.now q.degree_bound q.weights_value _ _ c.span_of-span.ensures.found in
    record { p_nonzero = all.0; p_bound = all.1.0; p_le_span = all.1.1.0; p_in_bounds = all.1.1.1.0; span_in_bounds = all.1.1.1.1.0; span_in_bounds_2 = all.1.1.1.1.1 }

pub returns : goal.returns
unfolding found_of
returns c = let a = c.args in
    c.curve_at.ensures ∙ ap₂ (curve_of a.curve.degree a.curve.knots.now a.curve.points.now a.curve.rational a.curve.weights.now) c.span_of-span.ensures.found c.clamp-u.ensures
