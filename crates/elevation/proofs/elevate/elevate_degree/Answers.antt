-- `elevation::elevate::elevate_degree` meets its contract.
-- Assumes nothing.
use Rattle.std.proofs.Common.{◌∙◌, ap}
use lib.ListN.{length}
use Rattle.knots.specs.Clear.{zeros}
use Rattle.knots.proofs.Refusals.{let_by}
use Rattle.edits.proofs.Outcomes.{edit-early, edit-late, edit-formed}
use Rattle.elevation.specs.Whole.{elevate_outcome}
use Rattle.elevation.proofs.Outcomes.{counted_ready}
use Rattle.elevation.proofs.elevate.elevate_degree.Goals as goal

pub returns-in-Err : goal.returns-in-Err
unfolding elevate_outcome
returns-in-Err c = let k = c.clear_all.ensures in edit-early _ _ _ _ _ _ _ _ _ k.3 _ c.in-Err.ensures _ _ _ k.0 k.1 k.2

pub form-late-requires : goal.form-late-requires
form-late-requires c = let_by _ c.in_default.ensures

pub returns-in-Err-late : goal.returns-in-Err-late
unfolding elevate_outcome
returns-in-Err-late c = let k = c.clear_all-in-Err-late.ensures in
    let l = c.form-late.auto in
    edit-late
    _ _ _ _ _ _ _ _ _ (k.3 ∙ ap zeros l.work) (let_by _ c.in_default.ensures) _ _ _ _ c.in-Err-late.ensures _ _ _
    (k.0 ∙ ap zeros l.out_knots) (k.1 ∙ ap zeros l.out_points) (k.2 ∙ ap zeros l.out_weights)

pub elevated_count-count-requires : goal.elevated_count-count-requires
elevated_count-count-requires c = let a = c.args in
    let all =
    counted_ready
    a.curve.degree a.curve.knots.now a.curve.points.now a.curve.rational a.curve.weights.now a.raised (length a.out_knots.now) (length a.out_points.now) (length a.out_weights.now)
    (length a.scratch.now) (let_by _ c.in_default.ensures) in
    record { p_lt_n = all.0; e_bound = all.1 }

pub returns : goal.returns
unfolding elevate_outcome
returns c = edit-formed _ _ _ _ _ _ _ _ _ (c.clear.ensures ∙ ap zeros c.form-late.auto.work) (let_by _ c.in_default.ensures) _ _ _ c.in_default-late.ensures _ c.elevated_count-count.ensures
