-- `many::start::points_start` meets its contract.
-- Assumes nothing.
use mathlib.Core.Bool.{true}
use native.Mathlib.Omega.{arith}
use mathlib.Core.Path.{sym, refl, ◌∙◌, ap}
use Rattle.std.specs.Prelude.{Err}
use Rattle.std.proofs.lemmas.Result.{err_from_is_err_and}
use Rattle.knots.specs.Refusal.{checked}
use Rattle.knots.proofs.Refusals.{skip, refused-first}
use Rattle.knots.proofs.Curves.{within}
use Rattle.many.proofs.Rows.{small_product}
use Rattle.many.specs.Points.{points_start}
use Rattle.many.proofs.start.points_start.Goals as goal

pub returns-then-over_long : goal.returns-then-over_long
unfolding points_start checked
returns-then-over_long c = simp (sym c.over_long.ensures ∙ c.if-over_long.true) (ap Err c.refuse.ensures)

pub returns-in_err-table_refusal : goal.returns-in_err-table_refusal
unfolding points_start
returns-in_err-table_refusal c = let p = err_from_is_err_and c.from_residual.result c.from_residual.ensures.1 in rw (p.1, p.2) (simp (sym c.over_long.ensures ∙ c.if-over_long.false) (refused-first _ _ c.in_err-table_refusal.ensures))

pub overflow_mul-n : goal.overflow_mul-n
overflow_mul-n c = let as₁ = c.args in
    let a =
    small_product
    _ as₁.width (within true as₁.ts.now (sym c.over_long.ensures ∙ c.if-over_long.false) refl)
    c.requires in
    omega (arith, a)

pub returns : goal.returns
unfolding points_start
returns c = simp (sym c.over_long.ensures ∙ c.if-over_long.false, skip _ c.in_ok-table_refusal.ensures) c.rooms_refusal.ensures
