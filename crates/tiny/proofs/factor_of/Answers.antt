use native.Mathlib.Omega.{arith}
use borrow.Author.Tests.{lt-ltb, le-ltb}
use Rattle.tiny.specs.Factors.{factor_of}
use Rattle.tiny.proofs.factor_of.Goals as goal

pub returns-then-x-lt4557642822898941952 : goal.returns-then-x-lt4557642822898941952
unfolding factor_of
returns-then-x-lt4557642822898941952 c = rw (lt-ltb c.args.x 0x3f40_0000_0000_0000 c.if-x-lt4557642822898941952.true)

pub returns-then-x-lt4796333603149578240 : goal.returns-then-x-lt4796333603149578240
unfolding factor_of
returns-then-x-lt4796333603149578240 c = rw (le-ltb c.args.x 0x3f40_0000_0000_0000 (omega arith), lt-ltb c.args.x 0x4290_0000_0000_0000 c.if-x-lt4796333603149578240.true)

pub returns : goal.returns
unfolding factor_of
returns c = rw (le-ltb c.args.x 0x3f40_0000_0000_0000 (omega arith), le-ltb c.args.x 0x4290_0000_0000_0000 (omega arith))
