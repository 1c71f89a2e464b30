use Rattle.doubles.proofs.TestFacts.{nan-no, nan-yes}
use Rattle.interval.proofs.float.max.Goals as goal

pub returns-then-a-b : goal.returns-then-a-b
returns-then-a-b c = rw c.if-a-b.true

pub returns-then-a : goal.returns-then-a
returns-then-a c = rw (c.if-a-b.false, nan-no _ c.if-a.true)

pub returns-else-a : goal.returns-else-a
returns-else-a c = rw (c.if-a-b.false, nan-yes _ c.if-a.false)
