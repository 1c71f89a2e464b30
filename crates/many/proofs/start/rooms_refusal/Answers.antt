-- `many::start::rooms_refusal` meets its contract.
-- Assumes nothing.
use Rattle.std.proofs.lemmas.Result.{err_from_is_err_and}
use Rattle.knots.proofs.Refusals.{skip, refused-first}
use Rattle.many.specs.Start.{rooms_refusal}
use Rattle.many.proofs.start.rooms_refusal.Goals as goal

pub returns-in_err-room_refusal : goal.returns-in_err-room_refusal
unfolding rooms_refusal
returns-in_err-room_refusal c = let p = err_from_is_err_and c.from_residual.result c.from_residual.ensures.1 in rw (p.1, p.2) (refused-first _ _ c.in_err-room_refusal.ensures)

pub returns : goal.returns
unfolding rooms_refusal
returns c = simp (skip _ c.in_ok-room_refusal.ensures) c.room_refusal-2.ensures
