use Rattle.interval.specs.Ops.{add_of}
use Rattle.std.proofs.Common.{rules}
use Rattle.interval.proofs.Interval.add.Goals as goal

pub returns : goal.returns
unfolding add_of
returns c = search rules
