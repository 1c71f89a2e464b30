use Rattle.interval.specs.Ops.{new_of}
use Rattle.interval.proofs.Interval.new.Goals as goal

pub returns-then-lo-hi : goal.returns-then-lo-hi
unfolding new_of
returns-then-lo-hi c = rw c.if-lo-hi.true

pub returns-else-lo-hi : goal.returns-else-lo-hi
unfolding new_of
returns-else-lo-hi c = rw c.if-lo-hi.false
