-- `insertion::start::insert_start` meets its contract.
-- Assumes nothing.
use Rattle.std.proofs.Common.{sym, ◌∙◌, ap}
use Rattle.std.specs.Prelude.{Err}
use Rattle.std.proofs.lemmas.Result.{err_from_is_err_and}
use Rattle.knots.specs.Refusal.{checked}
use Rattle.knots.proofs.Refusals.{skip, refused-first}
use Rattle.insertion.specs.Whole.{insert_start}
use Rattle.insertion.proofs.start.insert_start.Goals as goal

pub returns-then-over_long : goal.returns-then-over_long
unfolding insert_start checked
returns-then-over_long c = simp (sym c.over_long.ensures ∙ c.if-over_long.true) (ap Err c.refuse.ensures)

pub returns-in_err-edit_start : goal.returns-in_err-edit_start
unfolding insert_start
returns-in_err-edit_start c = let p = err_from_is_err_and c.from_residual.result c.from_residual.ensures.1 in
    rw (p.1, p.2) (simp (sym c.over_long.ensures ∙ c.if-over_long.false) (refused-first _ _ c.in_err-edit_start.ensures))

pub returns-in_err-out_room : goal.returns-in_err-out_room
unfolding insert_start
returns-in_err-out_room c = let p = err_from_is_err_and c.from_residual-in_err-out_room.result c.from_residual-in_err-out_room.ensures.1 in
    rw (p.1, p.2) (simp (sym c.over_long.ensures ∙ c.if-over_long.false, skip _ c.in_ok-edit_start.ensures) (refused-first _ _ c.in_err-out_room.ensures))

pub returns : goal.returns
unfolding insert_start
returns c = simp (sym c.over_long.ensures ∙ c.if-over_long.false, skip _ c.in_ok-edit_start.ensures, skip _ c.in_ok-out_room.ensures) c.scratch_room.ensures
