use mathlib.Core.Path.{sym, ◌∙◌}
use native.Mathlib.Omega.{arith}
use lib.ListN.{length}
use borrow.Author.Tests.{le-leb, lt-leb, le-ltb}
use Rattle.ranges.specs.Range.{span_in}
use Rattle.ranges.proofs.First.{span-in}
use Rattle.ranges.proofs.range.span_over.Goals as goal

pub returns-then-degree-count : goal.returns-then-degree-count
unfolding span_in
returns-then-degree-count c = rw (lt-leb c.args.degree c.args.count c.if-degree-count.true)

pub returns-then-count-knots : goal.returns-then-count-knots
unfolding span_in
returns-then-count-knots c = rw (
  le-leb c.args.degree c.args.count (omega (arith, c.if-degree-count.false)),
  le-ltb c.args.count
      (length c.args.knots.now) c.if-count-knots.true,
)

pub first_span-requires-clause-degree_le_count : goal.first_span-requires-clause-degree_le_count
first_span-requires-clause-degree_le_count c = omega (arith, c.if-degree-count.false)

pub first_span-requires-clause-count_in_bounds : goal.first_span-requires-clause-count_in_bounds
first_span-requires-clause-count_in_bounds c = omega (arith, c.if-count-knots.false)

pub returns : goal.returns
returns c = c.first_span.ensures ∙ sym (span-in c.args.degree c.args.count c.args.knots.now
    c.args.lo c.args.hi (omega (arith, c.if-degree-count.false)) (omega (arith, c.if-count-knots.false)))
