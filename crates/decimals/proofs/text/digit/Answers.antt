-- A digit is a figure below ten, else a letter.
-- Assumes nothing.
use borrow.Author.Tests.{lt-ltb, le-ltb}
use Rattle.decimals.specs.Text.{digit}
use Rattle.decimals.proofs.text.digit.Goals as goal

pub returns-then-d-lt10 : goal.returns-then-d-lt10
unfolding digit
returns-then-d-lt10 c = rw (lt-ltb _ _ c.if-d-lt10.true)

pub returns : goal.returns
unfolding digit
returns c = rw (le-ltb _ _ c.if-d-lt10.false)
