-- `insertion::one::insert_at` meets its contract.
-- Assumes nothing.
use Rattle.std.proofs.Common.{◌∙◌, ap, ◌≡◌, subst}
use Rattle.std.proofs.lemmas.Result.{err_from_is_err_and}
use native.Mathlib.Omega.{arith}
use Rattle.edits.specs.Control.{vector_of, is_lifted}
use Rattle.edits.specs.Passes.{LiftDone}
use Rattle.insertion.proofs.OneInsertion.{form-late, form-end}
use Rattle.insertion.proofs.OneInsertion.{form-19}
use mathlib.Core.Bool.{true, false}
use lib.Ieee.{Float}
use Rattle.knots.specs.Below.{all_below}
use Rattle.knots.proofs.Refusals.{let_by, stopped_by}
use Rattle.edits.specs.Work.{controls}
use Rattle.edits.proofs.LiftCall.{lifted-bad, lifted-done}
use Rattle.insertion.proofs.one.insert_at.Goals as goal

pub returns-in_err-lift_in : goal.returns-in_err-lift_in
returns-in_err-lift_in c = let p = err_from_is_err_and c.from_residual.result c.from_residual.ensures.1 in
    let a = c.args in
    let pr = c.requires in
    let s = stopped_by _ c.in_err-lift_in.ensures.value in
    let b = lifted-bad a.scale a.n a.rational a.work.now (let q = pr.n_bound in let x = q.0 in let y = q.1 in omega arith) s.1 in
    rw
    (p.1, p.2)
    (form-19
    a.a a.spot.p a.n a.spot.k a.spot.s a.spot.t a.rational a.work.now
    (subst (λ (m : Float). all_below (λ i. is_lifted (controls m a.n a.rational a.work.now i)) a.n ≡ false) pr.scale_value b.1) _ (s.0 ∙ b.0) _)

pub returns-in_err-lower_rows : goal.returns-in_err-lower_rows
returns-in_err-lower_rows c = let p = err_from_is_err_and c.from_residual-in_err-lower_rows.result c.from_residual-in_err-lower_rows.ensures.1 in
    let a = c.args in
    let pr = c.requires in
    rw
    (p.1, p.2)
    (form-late
    a.a a.spot.p a.n a.spot.k a.spot.s a.spot.t a.rational a.work.now pr.s_le_p.2 _
    (c.vector_of-o.ensures
    ∙ ap vector_of c.row_at.ensures)
    _
    (subst
    (λ (m : Float). LiftDone a.rational (controls m a.n a.rational a.work.now) a.n a.work.now c.lift_in.new.work true)
    pr.scale_value
    (lifted-done
    a.scale a.n a.rational a.work.now (let q = pr.n_bound in let x = q.0 in let y = q.1 in omega arith)
    (let_by _ c.in_ok-lift_in.ensures.value) _
    c.in_ok-lift_in.ensures.work_after))
    pr.s_le_p.0 pr.s_le_p.1 pr.n_bound.0 pr.n_bound.1 c.work-1.given pr.valid_knots _ _
    c.in_err-lower_rows.ensures (λ z. cc))

pub overflow_add-at : goal.overflow_add-at
overflow_add-at c = let pr = c.requires in
    let q = pr.n_bound in
    let k = pr.s_le_p.2 in
    let y = q.1 in
    let g = c.well_formed in
    let f = c.ranges in omega (arith, g, f)

pub overflow_add-end : goal.overflow_add-end
overflow_add-end c = let q = c.requires.n_bound in
    let y = q.1 in
    let g = c.well_formed in
    let f = c.ranges in omega (arith, g, f)

pub overflow_add-end-2 : goal.overflow_add-end-2
overflow_add-end-2 c = let q = c.requires.n_bound in
    let y = q.1 in
    let g = c.well_formed in
    let f = c.ranges in omega (arith, g, f)

pub overflow_add-end-3 : goal.overflow_add-end-3
overflow_add-end-3 c = let q = c.requires.n_bound in
    let y = q.1 in
    let g = c.well_formed in
    let f = c.ranges in omega (arith, g, f)

pub put_knot-requires : goal.put_knot-requires
put_knot-requires c = let pr = c.requires in
    let q = pr.n_bound in
    let k = pr.s_le_p.2 in
    let y = q.1 in
    let w = c.work-1.given in
    let v = c.work-2-1.given in (omega arith, omega arith)

pub returns : goal.returns
returns c = let a = c.args in
    let pr = c.requires in
    form-end
    a.a a.spot.p a.n a.spot.k a.spot.s a.spot.t a.rational a.work.now pr.s_le_p.2 _
    (c.vector_of-o.ensures
    ∙ ap vector_of c.row_at.ensures)
    _
    (subst
    (λ (m : Float). LiftDone a.rational (controls m a.n a.rational a.work.now) a.n a.work.now c.lift_in.new.work true)
    pr.scale_value
    (lifted-done
    a.scale a.n a.rational a.work.now (let q = pr.n_bound in let x = q.0 in let y = q.1 in omega arith)
    (let_by _ c.in_ok-lift_in.ensures.value) _
    c.in_ok-lift_in.ensures.work_after))
    pr.s_le_p.0 pr.s_le_p.1 pr.n_bound.0 pr.n_bound.1 c.work-1.given
    pr.valid_knots _ _ c.in_ok-lower_rows.ensures
    c.work-2-1.given _ c.work-3-1.given c.put_knot.ensures
