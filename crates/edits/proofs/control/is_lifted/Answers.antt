-- `edits::control::is_lifted` meets its contract.
-- Assumes nothing.
use Rattle.edits.proofs.LastTest.{last-decides}
use mathlib.Core.Path.{sym, ◌∙◌}
use lib.Ieee.{of_bits}
use borrow.Author.Tests.{not-true, not-false}
use Rattle.edits.specs.Control.{is_lifted}
use Rattle.edits.proofs.control.is_lifted.Goals as goal

pub returns-then-not-is_finite : goal.returns-then-not-is_finite
unfolding is_lifted
returns-then-not-is_finite c = simp (sym c.is_finite.ensures ∙ c.if-not-is_finite.true)

pub returns-then-not-is_finite-2 : goal.returns-then-not-is_finite-2
unfolding is_lifted
returns-then-not-is_finite-2 c = simp (sym c.is_finite.ensures ∙ c.if-not-is_finite.false, sym c.is_finite-2.ensures ∙ c.if-not-is_finite-2.true)

pub returns-then-not-is_finite-3 : goal.returns-then-not-is_finite-3
unfolding is_lifted
returns-then-not-is_finite-3 c = simp (
  sym c.is_finite.ensures ∙ c.if-not-is_finite.false,
  sym c.is_finite-2.ensures ∙ c.if-not-is_finite-2.false,
  sym c.is_finite-3.ensures ∙ c.if-not-is_finite-3.true,
)

pub returns : goal.returns
unfolding is_lifted of_bits
returns c = last-decides
    _ _ _ _ (sym c.is_finite.ensures ∙ c.if-not-is_finite.false)
    (sym c.is_finite-2.ensures ∙ c.if-not-is_finite-2.false)
    (sym c.is_finite-3.ensures ∙ c.if-not-is_finite-3.false)
