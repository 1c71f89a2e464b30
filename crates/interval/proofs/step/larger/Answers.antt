use Rattle.std.proofs.Common.{arith, le-ltb, lt-ltb}
use Rattle.interval.proofs.step.larger.Goals as goal

pub returns-then-m-n : goal.returns-then-m-n
returns-then-m-n c = rw (lt-ltb c.args.m c.args.n c.if-m-n.true)

pub returns-else-m-n : goal.returns-else-m-n
returns-else-m-n c = rw (le-ltb c.args.m c.args.n (omega arith))
