-- `made::iso_curve::along_start` meets its contract.
-- Assumes nothing.
use Rattle.std.proofs.Common.{sym, ◌∙◌, ap}
use Rattle.std.specs.Prelude.{Err}
use Rattle.std.proofs.lemmas.Result.{err_from_is_err_and}
use Rattle.knots.specs.Refusal.{checked}
use Rattle.knots.proofs.Refusals.{skip, refused-first}
use Rattle.made.specs.IsoCurve.{along_start}
use Rattle.made.proofs.iso_curve.along_start.Goals as goal

pub returns-then-iso_outside : goal.returns-then-iso_outside
unfolding along_start checked
returns-then-iso_outside c = simp (sym c.iso_outside.ensures ∙ c.if-iso_outside.true) (ap Err c.refuse.ensures)

pub returns-in_err-room_refusal : goal.returns-in_err-room_refusal
unfolding along_start
returns-in_err-room_refusal c =
    let p = err_from_is_err_and c.from_residual.result c.from_residual.ensures.1 in rw (p.1, p.2)
    (simp (sym c.iso_outside.ensures ∙ c.if-iso_outside.false) (refused-first _ _ c.in_err-room_refusal.ensures))

pub returns : goal.returns
unfolding along_start
returns c = simp (sym c.iso_outside.ensures ∙ c.if-iso_outside.false, skip _ c.in_ok-room_refusal.ensures) c.room_refusal-2.ensures
