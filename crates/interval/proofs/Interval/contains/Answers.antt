use Rattle.interval.specs.Ops.{contains_of}
use Rattle.interval.proofs.Interval.contains.Goals as goal

pub returns-then-self-value : goal.returns-then-self-value
unfolding contains_of
returns-then-self-value c = rw c.if-self-value.true

pub returns-else-self-value : goal.returns-else-self-value
unfolding contains_of
returns-else-self-value c = rw c.if-self-value.false
