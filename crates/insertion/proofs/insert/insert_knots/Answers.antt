-- `insertion::insert::insert_knots` meets its contract.
-- Assumes nothing.
use Rattle.std.proofs.Common.{refl, ◌∙◌, ap, rules}
use native.Mathlib.Nat.{sub-zero}
use native.Mathlib.Omega.{arith}
use lib.ListN.{length}
use Rattle.knots.specs.Clear.{zeros}
use Rattle.knots.proofs.Refusals.{let_by}
use Rattle.insertion.proofs.StartOpen.{start-open}
use Rattle.edits.proofs.Outcomes.{edit-early, edit-late, edit-formed}
use Rattle.insertion.specs.Whole.{insert_outcome}
use Rattle.insertion.proofs.insert.insert_knots.Goals as goal

pub returns-in-Err : goal.returns-in-Err
unfolding insert_outcome
returns-in-Err c = let k = c.clear_all.ensures in edit-early _ _ _ _ _ _ _ _ _ k.3 _ c.in-Err.ensures _ _ _ k.0 k.1 k.2

pub insert_into-late-requires : goal.insert_into-late-requires
insert_into-late-requires c = let a = c.args in
    let o =
    start-open
    a.curve.degree a.curve.knots.now a.curve.points.now a.curve.rational a.curve.weights.now a.inserted.now (length a.out_knots.now) (length a.out_points.now) (length a.out_weights.now)
    (length a.scratch.now) (let_by _ c.in_default.ensures) in
    let h = o.out.knots in
    let i = o.out.points in
    let j = o.out.weights in
    let k = o.scratch in
    record {
      valid_curve = o.curve;
      degree_in_bounds = omega arith;
      inserted_in_bounds = omega arith;
      inserted_in_bounds_2 = omega arith;
      degree_in_bounds_2 = omega arith;
    }

pub returns-in-Err-late : goal.returns-in-Err-late
unfolding insert_outcome
returns-in-Err-late c = let k = c.clear_all-in-Err-late.ensures in
    let l = c.insert_into-late.auto in
    edit-late
    _ _ _ _ _ _ _ _ _ (k.3 ∙ ap zeros l.work) (let_by _ c.in_default.ensures) _ _ _ _ c.in-Err-late.ensures _ _ _
    (k.0 ∙ ap zeros l.out_knots) (k.1 ∙ ap zeros l.out_points) (k.2 ∙ ap zeros l.out_weights)

pub overflow_add-count : goal.overflow_add-count
overflow_add-count c = let a = c.args in
    let o =
    start-open
    a.curve.degree a.curve.knots.now a.curve.points.now a.curve.rational a.curve.weights.now a.inserted.now (length a.out_knots.now) (length a.out_points.now) (length a.out_weights.now)
    (length a.scratch.now) (let_by _ c.in_default.ensures) in
    let f = o.few in
    let s = o.curve.short.points in
    search rules

pub returns : goal.returns
unfolding insert_outcome
returns c = edit-formed _ _ _ _ _ _ _ _ _ (c.clear_from.ensures ∙ simp (sub-zero, c.insert_into-late.auto.work)) (let_by _ c.in_default.ensures) _ _ _ c.in_default-late.ensures _ refl
