use Rattle.std.proofs.lemmas.Result.{err_from_is_err_and}
use Rattle.std.proofs.Common.{ap}
use Rattle.std.specs.Prelude.{Err}
use borrow.Author.Tests.{lt-ltb, le-ltb}
use Rattle.knots.specs.Refusal.{checked}
use Rattle.knots.proofs.Refusals.{skip, refused-first}
use Rattle.bounds.specs.Surface.{ranges_refusal}
use Rattle.bounds.proofs.surface.ranges_refusal.Goals as goal

pub returns-then-v-gt64 : goal.returns-then-v-gt64
unfolding ranges_refusal checked
returns-then-v-gt64 c = rw (lt-ltb _ _ c.if-v-gt64.true) (ap Err c.refuse.ensures)

pub returns-in_err-range_refusal : goal.returns-in_err-range_refusal
unfolding ranges_refusal
returns-in_err-range_refusal c = let p = err_from_is_err_and c.from_residual.result c.from_residual.ensures.1 in rw (p.1, p.2, le-ltb _ _ c.if-v-gt64.false) (refused-first _ _ c.in_err-range_refusal.ensures)

pub returns : goal.returns
unfolding ranges_refusal
returns c = rw (le-ltb _ _ c.if-v-gt64.false, skip _ c.in_ok-range_refusal.ensures) c.range_refusal-2.ensures
