use Rattle.interval.specs.Ops.{sub_of}
use Rattle.std.proofs.Common.{rules}
use Rattle.interval.proofs.Interval.sub.Goals as goal

pub returns : goal.returns
unfolding sub_of
returns c = search rules
