use Rattle.std.proofs.Common.{ap}
use Rattle.std.specs.Prelude.{Err}
use borrow.Author.Tests.{lt-ltb, le-ltb, eq-eqb, ne_eqb}
use Rattle.knots.specs.Refusal.{checked}
use Rattle.ranges.specs.Range.{range_refusal}
use Rattle.ranges.proofs.range.range_refusal.Goals as goal

pub returns-then-degree-gt64 : goal.returns-then-degree-gt64
unfolding range_refusal checked
returns-then-degree-gt64 c = rw (lt-ltb _ _ c.if-degree-gt64.true) (ap Err c.refuse.ensures)

pub returns-then-not-is_finite : goal.returns-then-not-is_finite
unfolding range_refusal checked
returns-then-not-is_finite c = rw (le-ltb _ _ c.if-degree-gt64.false, ← c.is_finite.ensures, c.if-not-is_finite.true) (ap Err c.refuse-then-not-is_finite.ensures)

pub returns-then-not-is_finite-2 : goal.returns-then-not-is_finite-2
unfolding range_refusal checked
returns-then-not-is_finite-2 c = rw (
  le-ltb _ _ c.if-degree-gt64.false,
  ← c.is_finite.ensures,
  c.if-not-is_finite.false,
  ← c.is_finite-2.ensures,
  c.if-not-is_finite-2.true,
) (ap Err c.refuse-then-not-is_finite-2.ensures)

pub returns-then-lo-hi : goal.returns-then-lo-hi
unfolding range_refusal checked
returns-then-lo-hi c = rw (
  le-ltb _ _ c.if-degree-gt64.false,
  ← c.is_finite.ensures,
  c.if-not-is_finite.false,
  ← c.is_finite-2.ensures,
  c.if-not-is_finite-2.false,
  c.if-lo-hi.true,
) (ap Err c.refuse-then-lo-hi.ensures)

pub returns-then-span-count : goal.returns-then-span-count
unfolding range_refusal checked
returns-then-span-count c = rw (
  le-ltb _ _ c.if-degree-gt64.false,
  ← c.is_finite.ensures,
  c.if-not-is_finite.false,
  ← c.is_finite-2.ensures,
  c.if-not-is_finite-2.false,
  c.if-lo-hi.false,
  eq-eqb _ _ c.if-span-count.true,
) (ap Err c.refuse-then-span-count.ensures)

pub returns : goal.returns
unfolding range_refusal checked
returns c = rw (
  le-ltb _ _ c.if-degree-gt64.false,
  ← c.is_finite.ensures,
  c.if-not-is_finite.false,
  ← c.is_finite-2.ensures,
  c.if-not-is_finite-2.false,
  c.if-lo-hi.false,
  ne_eqb _ _ c.if-span-count.false,
)
