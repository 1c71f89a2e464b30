-- `knots::span::last_span` meets its contract: what is left to search is below the place reached.
-- Assumes nothing.
use Prim.Native.Nat.{◌-◌}
use mathlib.Core.Path.{◌≡◌}
use Rattle.knots.specs.Span.{nonempty, last_after, last_nonempty}
use Rattle.knots.proofs.span.last_span.Given as goal

abbrev pub invariant-loop-span : goal.invariant-loop-span
invariant-loop-span l = last_nonempty l.degree l.count l.knots ≡ last_after (nonempty l.knots) l.degree (l.span - 1 - l.degree)
