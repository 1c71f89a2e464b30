-- `insertion::insert::insert_into` meets its contract.
-- Assumes nothing.
use Rattle.std.proofs.Common.{◌∙◌, ◌+◌, ◌*◌, ◌/◌}
use Rattle.std.proofs.lemmas.Result.{err_from_is_err_and}
use native.Mathlib.Omega.{arith}
use lib.ListN.{length}
use Rattle.insertion.proofs.Outputs.{out-refused, out-formed}
use Rattle.insertion.proofs.GivenCurve.{given-laid, given-valid, given-goal}
use Rattle.edits.proofs.WorkCalls.{take_none}
use Rattle.edits.proofs.Outcomes.{checked-none}
use Rattle.runs.proofs.Overlays.{left-padded}
use Rattle.insertion.proofs.insert.insert_into.Goals as goal

pub returns-in_err-lay_curve : goal.returns-in_err-lay_curve
returns-in_err-lay_curve c = let a = c.args in
    let pr = c.requires in
    let l = c.in_err-lay_curve.ensures in
    let no = given-laid a.curve.degree a.curve.knots.now a.curve.points.now a.curve.rational a.curve.weights.now a.inserted.now a.work.now pr.valid_curve pr.degree_in_bounds_2 _ _ l.value l.work_after in
    cc

pub insert_all-requires : goal.insert_all-requires
insert_all-requires c = let a = c.args in
    let pr = c.requires in
    let q = pr.degree_in_bounds_2 in
    let w = c.work-1.given in
    let l = c.in_ok-lay_curve.ensures in
    record {
      valid_knots = given-valid a.curve.degree a.curve.knots.now a.curve.points.now a.curve.rational a.curve.weights.now a.inserted.now a.work.now pr.valid_curve pr.degree_in_bounds_2 _ _ l.value l.work_after;
      inserted_bound = (omega arith, omega arith);
    }

pub returns-in_err-insert_all : goal.returns-in_err-insert_all
returns-in_err-insert_all c = let p = err_from_is_err_and c.from_residual-in_err-insert_all.result c.from_residual-in_err-insert_all.ensures.1 in
    let a = c.args in
    let pr = c.requires in
    let l = c.in_ok-lay_curve.ensures in
    rw
    (p.1, p.2)
    (out-refused
    ((length a.curve.points.now / 3 + length a.inserted.now) * 4) a.curve.degree (length a.curve.points.now / 3 + length a.inserted.now) a.curve.rational _ _ (length a.out_knots.now)
    (length a.out_points.now) (length a.out_weights.now) _ _ _ _ _ _
    (given-goal a.curve.degree a.curve.knots.now a.curve.points.now a.curve.rational a.curve.weights.now a.inserted.now a.work.now pr.valid_curve pr.degree_in_bounds_2 _ _ l.value l.work_after)
    c.in_err-insert_all.ensures)

pub returns : goal.returns
returns c = let a = c.args in
    let pr = c.requires in
    let l = c.in_ok-lay_curve.ensures in
    let t = c.take_curve.ensures in
    let m = length a.curve.points.now / 3 + length a.inserted.now in
    let q = pr.degree_in_bounds_2 in
    let x = pr.degree_in_bounds in
    let long = c.work-2-1.given ∙ c.work-1.given in
    let n = take_none a.curve.degree m 0 a.curve.rational (m * 4) _ (length a.out_knots.now) (length a.out_points.now) (length a.out_weights.now) (omega arith) (omega arith) (omega arith) pr.inserted_in_bounds pr.inserted_in_bounds_2 in
    out-formed
    (m * 4) a.curve.degree m a.curve.rational _ _ (length a.out_knots.now) (length a.out_points.now) (length a.out_weights.now) _ _ _ _ _
    (given-goal a.curve.degree a.curve.knots.now a.curve.points.now a.curve.rational a.curve.weights.now a.inserted.now a.work.now pr.valid_curve pr.degree_in_bounds_2 _ _ l.value l.work_after)
    c.in_ok-insert_all.ensures
    (t.knots_after ∙ left-padded _ _ _ n) (t.points_after ∙ left-padded _ _ _ n) (t.weights_after ∙ left-padded _ _ _ n) _ (t.value ∙ checked-none _ n)
