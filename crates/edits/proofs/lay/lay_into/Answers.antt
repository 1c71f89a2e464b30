use mathlib.Core.Path.{◌∙◌}
use native.Mathlib.Omega.{arith}
use Rattle.edits.proofs.IntoRun.{curve-in}
use Rattle.edits.proofs.lay.lay_into.Goals as goal

pub lay_rows-requires : goal.lay_rows-requires
lay_rows-requires c = let q = c.requires.points_len_bound in let x = q.0 in let y = q.1 in
    record {
      points_in_bounds = c.requires.points_in_bounds;
      points_in_bounds_2 = omega arith;
    }

pub lay_knots-requires : goal.lay_knots-requires
lay_knots-requires c = let q = c.requires.points_len_bound in let y = q.1 in let w = c.work-1.given in omega arith

pub shape_of-work : goal.shape_of-work
shape_of-work c = c.work-2-1.given ∙ c.work-1.given

pub returns : goal.returns
returns c = let a = c.args in
    curve-in
    a.a a.curve.knots.now a.curve.points.now a.curve.rational a.curve.weights.now a.work.now _ _
    c.requires.points_len_bound.0 c.lay_rows.ensures
    c.lay_knots.ensures
