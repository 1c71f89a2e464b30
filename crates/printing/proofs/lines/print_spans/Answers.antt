-- The walk ends: each span is behind the place where it was looked for, and before the count.
-- Assumes nothing.
use mathlib.Core.Path.{sym, ◌∙◌}
use native.Mathlib.Omega.{arith}
use Rattle.knots.proofs.Walks.{next-at}
use Rattle.printing.proofs.lines.print_spans.Goals as goal

pub overflow_add-from : goal.overflow_add-from
overflow_add-from c =
    let next = next-at _ _ _ _ _ (sym c.next_span.ensures ∙ c.in-Some.is) in
    omega (arith, next.below)

pub loop-from-smaller : goal.loop-from-smaller
loop-from-smaller c =
    let next = next-at _ _ _ _ _ (sym c.next_span.ensures ∙ c.in-Some.is) in
    omega (arith, next.from, next.below)
