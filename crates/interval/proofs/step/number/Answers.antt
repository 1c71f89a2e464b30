use Rattle.doubles.proofs.TestFacts.{nan-no, nan-yes}
use Rattle.interval.proofs.step.number.Goals as goal

pub returns-then-a : goal.returns-then-a
returns-then-a c = rw (nan-no _ c.if-a.true)

pub returns-else-a : goal.returns-else-a
returns-else-a c = rw (nan-yes _ c.if-a.false)
