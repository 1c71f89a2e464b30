-- `many::boxes::span_count` meets its contract.
-- Assumes nothing.
use lib.ListN.{length}
use Prim.Native.Nat.{◌-◌}
use mathlib.Core.Path.{◌≡◌}
use Rattle.many.specs.Spans.{spans_from}
use Rattle.many.proofs.boxes.span_count.Given as goal

abbrev pub invariant-loop-s : goal.invariant-loop-s
invariant-loop-s l = l.n ≡ length (spans_from (l.s - l.degree) l.knots l.degree)
