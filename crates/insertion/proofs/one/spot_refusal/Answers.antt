-- `insertion::one::spot_refusal` meets its contract.
-- Assumes nothing.
use Rattle.std.proofs.Common.{sym, ◌∙◌, ap}
use Rattle.std.specs.Prelude.{Err}
use borrow.Author.Tests.{lt-ltb, le-ltb}
use Rattle.knots.specs.Refusal.{checked}
use Rattle.insertion.specs.Insert.{spot_refusal}
use Rattle.insertion.proofs.one.spot_refusal.Goals as goal

pub returns-then-not-is_inside : goal.returns-then-not-is_inside
unfolding spot_refusal checked
returns-then-not-is_inside c = simp (sym c.is_inside.ensures ∙ c.if-not-is_inside.true) (ap Err c.refuse.ensures)

pub returns-then-s-p : goal.returns-then-s-p
unfolding spot_refusal checked
returns-then-s-p c = simp (sym c.is_inside.ensures ∙ c.if-not-is_inside.false, lt-ltb _ _ c.if-s-p.true) (ap Err c.refuse-then-s-p.ensures)

pub returns : goal.returns
unfolding spot_refusal checked
returns c = simp (sym c.is_inside.ensures ∙ c.if-not-is_inside.false, le-ltb _ _ c.if-s-p.false)
