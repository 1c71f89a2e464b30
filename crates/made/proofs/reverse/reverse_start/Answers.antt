-- `made::reverse::reverse_start` meets its contract.
-- Assumes nothing.
use Rattle.std.proofs.Common.{◌∙◌, ap}
use Rattle.std.proofs.lemmas.Result.{err_from_is_err_and}
use Rattle.knots.specs.Refusal.{checked}
use Rattle.knots.specs.Shape.{room_refusal}
use Rattle.knots.proofs.Refusals.{skip, refused-first}
use Rattle.made.specs.Reverse.{reverse_start}
use Rattle.made.proofs.reverse.reverse_start.Goals as goal

pub returns-in_err-curve_refusal : goal.returns-in_err-curve_refusal
unfolding reverse_start
returns-in_err-curve_refusal c = let p = err_from_is_err_and c.from_residual.result c.from_residual.ensures.1 in rw (p.1, p.2) (refused-first _ _ c.in_err-curve_refusal.ensures)

pub returns-in_err-room_refusal : goal.returns-in_err-room_refusal
unfolding reverse_start
returns-in_err-room_refusal c =
    let p = err_from_is_err_and c.from_residual-in_err-room_refusal.result c.from_residual-in_err-room_refusal.ensures.1 in rw (p.1, p.2)
    (simp (skip _ c.in_ok-curve_refusal.ensures) (refused-first _ _ c.in_err-room_refusal.ensures))

pub returns-in_err-room_refusal-2 : goal.returns-in_err-room_refusal-2
unfolding reverse_start
returns-in_err-room_refusal-2 c =
    let p = err_from_is_err_and c.from_residual-in_err-room_refusal-2.result c.from_residual-in_err-room_refusal-2.ensures.1 in rw (p.1, p.2)
    (simp (skip _ c.in_ok-curve_refusal.ensures, skip _ c.in_ok-room_refusal.ensures) (refused-first _ _ c.in_err-room_refusal-2.ensures))

pub returns : goal.returns
unfolding reverse_start
returns c = simp
    (skip _ c.in_ok-curve_refusal.ensures, skip _ c.in_ok-room_refusal.ensures, skip _ c.in_ok-room_refusal-2.ensures)
    (c.room_refusal-3.ensures ∙ ap (λ k. checked (room_refusal c.args.c k)) c.given_len.ensures)
