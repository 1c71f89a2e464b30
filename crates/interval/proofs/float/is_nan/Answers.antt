use Rattle.doubles.proofs.TestFacts.{ne-self}
use Rattle.interval.proofs.float.is_nan.Goals as goal

pub returns : goal.returns
returns c = ne-self c.args.x
