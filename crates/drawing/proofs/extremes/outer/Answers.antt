-- The greater or the lesser of two.
-- Assumes nothing.
use mathlib.Core.Path.{refl, ◌∙◌}
use Rattle.drawing.proofs.extremes.outer.Goals as goal

pub returns-then-up : goal.returns-then-up
returns-then-up c = c.max.ensures ∙ rw c.if-up.true refl

pub returns : goal.returns
returns c = c.min.ensures ∙ rw c.if-up.false refl
