-- `knots::span::inner_span` meets its contract: what is left to search is the window, which halves.
-- Assumes nothing.
use Prim.Native.Nat.{◌-◌}
use Rattle.knots.specs.Span.{halved}
use Rattle.knots.proofs.Halving.{Window}
use Rattle.knots.proofs.span.inner_span.Given as goal

abbrev pub invariant-loop-high : goal.invariant-loop-high
invariant-loop-high l = Window l.knots l.v l.degree l.count (halved (l.count - l.degree) l.knots l.v l.degree l.count) l.low l.high

abbrev pub decreases-loop-high : goal.decreases-loop-high
decreases-loop-high l = l.high - l.low
