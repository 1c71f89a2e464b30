use Rattle.interval.specs.Ops.{hull_of}
use Rattle.interval.proofs.Interval.hull.Goals as goal

pub returns : goal.returns
unfolding hull_of
returns c = cc
