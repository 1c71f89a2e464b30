use Rattle.doubles.proofs.TestFacts.{nan-no, nan-yes}
use Rattle.interval.proofs.float.min.Goals as goal

pub returns-then-b-a : goal.returns-then-b-a
returns-then-b-a c = rw c.if-b-a.true

pub returns-then-a : goal.returns-then-a
returns-then-a c = rw (c.if-b-a.false, nan-no _ c.if-a.true)

pub returns-else-a : goal.returns-else-a
returns-else-a c = rw (c.if-b-a.false, nan-yes _ c.if-a.false)
