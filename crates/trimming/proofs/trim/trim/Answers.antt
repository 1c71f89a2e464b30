-- `trimming::trim::trim` meets its contract.
-- Assumes nothing.
use Rattle.std.proofs.Common.{◌∙◌, ap}
use native.Mathlib.Omega.{arith}
use lib.ListN.{length}
use Rattle.knots.specs.Clear.{zeros}
use Rattle.knots.proofs.Refusals.{let_by}
use Rattle.trimming.proofs.Ranges.{start-open, range-order}
use Rattle.edits.proofs.Outcomes.{edit-early, edit-late, edit-formed}
use Rattle.trimming.specs.Trim.{trim_outcome}
use Rattle.trimming.proofs.trim.trim.Goals as goal

pub returns-in-Err : goal.returns-in-Err
unfolding trim_outcome
returns-in-Err c = let k = c.clear_all.ensures in edit-early _ _ _ _ _ _ _ _ _ k.3 _ c.in-Err.ensures _ _ _ k.0 k.1 k.2

pub trim_into-late-requires : goal.trim_into-late-requires
trim_into-late-requires c = let a = c.args in
    let o =
    start-open
    a.curve.degree a.curve.knots.now a.curve.points.now a.curve.rational a.curve.weights.now a.lo a.hi (length a.out_knots.now) (length a.out_points.now) (length a.out_weights.now)
    (length a.scratch.now) (let_by _ c.in_default.ensures) in
    record {
      valid_curve = o.curve;
      lo_bound = range-order a.curve.degree _ a.curve.knots.now o.curve.knots a.lo a.hi o.range;
      degree_in_bounds = o.out.knots;
      hi_in_bounds = o.out.points;
      hi_in_bounds_2 = o.out.weights;
      degree_in_bounds_2 = o.scratch;
    }

pub returns-in-Err-late : goal.returns-in-Err-late
unfolding trim_outcome
returns-in-Err-late c = let k = c.clear_all-in-Err-late.ensures in
    let l = c.trim_into-late.auto in
    edit-late
    _ _ _ _ _ _ _ _ _ (k.3 ∙ ap zeros l.work) (let_by _ c.in_default.ensures) _ _ _ _ c.in-Err-late.ensures _ _ _
    (k.0 ∙ ap zeros l.out_knots) (k.1 ∙ ap zeros l.out_points) (k.2 ∙ ap zeros l.out_weights)

pub kept-count-requires : goal.kept-count-requires
kept-count-requires c = let a = c.args in
    let o =
    start-open
    a.curve.degree a.curve.knots.now a.curve.points.now a.curve.rational a.curve.weights.now a.lo a.hi (length a.out_knots.now) (length a.out_points.now) (length a.out_weights.now)
    (length a.scratch.now) (let_by _ c.in_default.ensures) in
    let v = o.curve in
    let l = v.knots.long in
    let k = v.knots.count in
    let s = v.short.knots in
    record {
      p_bound = omega arith;
      knots_len_bound = s;
      lo_bound = range-order a.curve.degree _ a.curve.knots.now v.knots a.lo a.hi o.range;
    }

pub returns : goal.returns
unfolding trim_outcome
returns c = edit-formed _ _ _ _ _ _ _ _ _ (c.clear.ensures ∙ ap zeros c.trim_into-late.auto.work) (let_by _ c.in_default.ensures) _ _ _ c.in_default-late.ensures _ c.kept-count.ensures
