-- `edits::control::is_blended` meets its contract.
-- Assumes nothing.
use mathlib.Core.Path.{sym, ◌∙◌}
use borrow.Author.Tests.{not-true, not-false}
use Rattle.edits.specs.Control.{is_blended}
use Rattle.edits.proofs.control.is_blended.Goals as goal

pub returns-then-not-is_lifted : goal.returns-then-not-is_lifted
unfolding is_blended
returns-then-not-is_lifted c = simp (sym c.is_lifted.ensures ∙ c.if-not-is_lifted.true)

pub returns : goal.returns
unfolding is_blended
returns c = simp (sym c.is_lifted.ensures ∙ c.if-not-is_lifted.false) c.is_finite.ensures
