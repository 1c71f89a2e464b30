-- `ranges::spans::first_span` meets its contract: no span before the place reached contains the range.
-- Assumes nothing.
use Prim.Native.Nat.{◌-◌}
use Rattle.ranges.specs.Range.{first_from, in_span, span_over}
use mathlib.Core.Path.{◌≡◌}
use Rattle.ranges.proofs.spans.first_span.Given as goal

abbrev pub invariant-loop-i : goal.invariant-loop-i
invariant-loop-i l = first_from (in_span l.knots l.lo l.hi) (l.count - l.i) l.i ≡ span_over l.degree l.count l.knots l.lo l.hi
