-- An infinity, by its sign.
-- Assumes nothing.
use mathlib.Core.Path.{refl, ◌∙◌, ap}
use lib.Ieee.{neg}
use Rattle.drawing.proofs.extremes.start.Goals as goal

pub returns-then-up : goal.returns-then-up
unfolding neg
returns-then-up c = ap neg c.infinity.ensures ∙ rw c.if-up.true refl

pub returns : goal.returns
returns c = c.infinity-2.ensures ∙ rw c.if-up.false refl
