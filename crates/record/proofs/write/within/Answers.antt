-- A size is at most 65,536 bytes.
-- Assumes nothing.
use borrow.Author.Tests.{le-leb, lt-leb}
use Rattle.record.proofs.write.within.Goals as goal

pub returns-then-n-gt65536 : goal.returns-then-n-gt65536
returns-then-n-gt65536 c = rw (lt-leb _ _ c.if-n-gt65536.true)

pub returns : goal.returns
returns c = rw (le-leb _ _ c.if-n-gt65536.false)
