-- `edits::work::lay_refusal` meets its contract.
-- Assumes nothing.
use Rattle.std.proofs.Common.{◌∙◌, ap, ℕ}
use Rattle.std.proofs.lemmas.Result.{err_from_is_err_and}
use lib.ListN.{length}
use Rattle.knots.specs.Refusal.{checked}
use Rattle.knots.specs.Shape.{room_refusal}
use Rattle.knots.proofs.Refusals.{skip, refused-first}
use Rattle.edits.specs.Work.{lay_refusal}
use Rattle.edits.proofs.work.lay_refusal.Goals as goal

pub returns-in_err-room_refusal : goal.returns-in_err-room_refusal
unfolding lay_refusal
returns-in_err-room_refusal c = let p = err_from_is_err_and c.from_residual.result c.from_residual.ensures.1 in
    rw (p.1, p.2) (refused-first _ _ (c.in_err-room_refusal.ensures ∙ ap (λ (i : ℕ). checked (room_refusal (length c.args.curve.weights.now) i)) c.given_count.ensures))

pub returns : goal.returns
unfolding lay_refusal
returns c = simp (skip _ (c.in_ok-room_refusal.ensures ∙ ap (λ (i : ℕ). checked (room_refusal (length c.args.curve.weights.now) i)) c.given_count.ensures)) c.work_room.ensures
