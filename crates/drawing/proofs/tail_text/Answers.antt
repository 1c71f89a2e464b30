-- The text as its bytes.
-- Assumes nothing.
use Rattle.decimals.specs.Ascii.{ascii}
use Rattle.drawing.specs.Drawing.{tail_text}
use Rattle.drawing.proofs.tail_text.Goals as goal

pub returns : goal.returns
unfolding tail_text ascii
returns c = c.only_text.ensures
