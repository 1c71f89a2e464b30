-- The bounds between two marks.
-- Assumes nothing.
use mathlib.Core.Path.{refl, ◌∙◌}
use Rattle.drawing.proofs.parts.bound_part.Goals as goal

pub returns : goal.returns
returns c = c.bound_span.ensures.value ∙ rw (c.mark-lo.ensures, c.mark-hi.ensures) refl
