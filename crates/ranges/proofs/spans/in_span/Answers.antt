use Rattle.std.proofs.Common.{sym, ◌∙◌}
use Rattle.ranges.specs.Range.{in_span}
use Rattle.ranges.proofs.spans.in_span.Goals as goal
use Rattle.ranges.proofs.spans.in_span.Goals.{then-a-b, else-a-b}

pub returns-then-lo-a : goal.returns-then-lo-a
unfolding in_span
returns-then-lo-a c = elim c.if-a-b.branch [ then-a-b w ↦ simp (w.if-a-b.true, sym w.value-is ∙ c.if-lo-a.true) | else-a-b w ↦ absurd (cc) ]

pub returns-else-lo-a : goal.returns-else-lo-a
unfolding in_span
returns-else-lo-a c = elim c.if-a-b.branch [ then-a-b w ↦ simp (c.if-lo-a.false, w.if-a-b.true, sym w.value-is ∙ c.if-lo-a.false) | else-a-b w ↦ simp (c.if-lo-a.false, w.if-a-b.false) ]
