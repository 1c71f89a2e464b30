-- The walk ends: each span is behind the place where it was looked for, and before the count.
-- Assumes nothing.
use Prim.Native.Nat.{◌-◌}
use Rattle.printing.proofs.lines.print_spans.Given as goal

abbrev pub invariant-loop-from : goal.invariant-loop-from
invariant-loop-from l = Unit {0}

abbrev pub decreases-loop-from : goal.decreases-loop-from
decreases-loop-from l = l.count - l.«from»
