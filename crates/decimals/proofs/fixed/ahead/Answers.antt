-- All but nine, and one at least.
-- Assumes nothing.
use borrow.Author.Tests.{lt-ltb, le-ltb}
use Rattle.decimals.proofs.fixed.ahead.Goals as goal

pub returns-then-n-gt10 : goal.returns-then-n-gt10
returns-then-n-gt10 c = rw (lt-ltb _ _ c.if-n-gt10.true)

pub returns : goal.returns
returns c = rw (le-ltb _ _ c.if-n-gt10.false)
