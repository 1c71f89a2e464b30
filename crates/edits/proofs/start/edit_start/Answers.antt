-- `edits::start::edit_start` meets its contract.
-- Assumes nothing.
use Rattle.std.proofs.Common.{◌∙◌, sym, ap}
use Rattle.std.specs.Prelude.{Err}
use Rattle.std.proofs.lemmas.Result.{err_from_is_err_and}
use native.Mathlib.Omega.{arith}
use Rattle.knots.specs.Refusal.{checked}
use Rattle.knots.proofs.Refusals.{let_by, skip, refused-first}
use Rattle.knots.proofs.Curves.{valid-curve}
use Rattle.edits.specs.Start.{edit_start}
use Rattle.edits.proofs.start.edit_start.Goals as goal

pub returns-in_err-curve_refusal : goal.returns-in_err-curve_refusal
unfolding edit_start
returns-in_err-curve_refusal c = let p = err_from_is_err_and c.from_residual.result c.from_residual.ensures.1 in
    rw (p.1, p.2) (refused-first _ _ c.in_err-curve_refusal.ensures)

pub clamped_ends-requires : goal.clamped_ends-requires
clamped_ends-requires c = let a = c.args in
    let v = valid-curve a.curve.degree a.curve.knots.now a.curve.points.now a.curve.rational a.curve.weights.now (let_by _ c.in_ok-curve_refusal.ensures) in
    let l = v.knots.long in let k = v.knots.count in (k, omega arith)

pub returns-then-not-clamped_ends : goal.returns-then-not-clamped_ends
unfolding edit_start checked
returns-then-not-clamped_ends c = simp (skip _ c.in_ok-curve_refusal.ensures, sym c.clamped_ends.ensures ∙ c.if-not-clamped_ends.true) (ap Err c.refuse.ensures)

pub returns : goal.returns
unfolding edit_start checked
returns c = simp (skip _ c.in_ok-curve_refusal.ensures, sym c.clamped_ends.ensures ∙ c.if-not-clamped_ends.false)
