-- du stands behind the point among a bound's values.
-- Assumes nothing.
use mathlib.Core.Path.{refl}
use Rattle.listing.proofs.boxes.shown_of.Goals as goal

pub returns-then-speeds : goal.returns-then-speeds
returns-then-speeds c = rw c.if-speeds.true refl

pub returns : goal.returns
returns c = rw c.if-speeds.false refl
