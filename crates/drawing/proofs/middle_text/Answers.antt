-- The text as its bytes.
-- Assumes nothing.
use Rattle.decimals.specs.Ascii.{ascii}
use Rattle.drawing.specs.Drawing.{middle_text}
use Rattle.drawing.proofs.middle_text.Goals as goal

pub returns : goal.returns
unfolding middle_text ascii
returns c = c.only_text.ensures
