-- `evaluate::curve2::told2_of` meets its contract.
-- Assumes nothing.
use mathlib.Core.Path.{sym, ◌∙◌, ap}
use Rattle.evaluate.specs.Curve2.{told2}
use Rattle.std.specs.Prelude.{Err}
use Rattle.evaluate.proofs.curve2.told2_of.Goals as goal

pub returns-then-finite2_of : goal.returns-then-finite2_of
unfolding told2
returns-then-finite2_of c = simp (sym c.finite2_of.ensures ∙ c.if-finite2_of.true)

pub returns : goal.returns
unfolding told2
returns c = simp (sym c.finite2_of.ensures ∙ c.if-finite2_of.false) (ap Err c.refuse.ensures)
