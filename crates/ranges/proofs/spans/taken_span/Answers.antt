use Rattle.ranges.specs.Range.{taken_span}
use Rattle.ranges.proofs.spans.taken_span.Goals as goal

pub returns-then-in_span : goal.returns-then-in_span
unfolding taken_span
returns-then-in_span c = rw (← c.in_span.ensures, c.if-in_span.true)

pub returns-else-in_span : goal.returns-else-in_span
unfolding taken_span
returns-else-in_span c = rw (← c.in_span.ensures, c.if-in_span.false)
