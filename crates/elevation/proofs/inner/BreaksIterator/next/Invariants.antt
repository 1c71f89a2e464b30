-- `elevation::inner::Breaks::next` meets its contract: there is no break before the place reached.
-- Assumes nothing.
use mathlib.Core.Path.{◌≡◌}
use Rattle.elevation.specs.Passes.{breaks_left}
use Rattle.elevation.proofs.BreakWalks.{left}
use Rattle.elevation.proofs.inner.BreaksIterator.next.Given as goal

abbrev pub invariant-loop-k : goal.invariant-loop-k
invariant-loop-k l = (l.self ≡ l.initial.self) × (breaks_left l.initial.self ≡ left l.self.knots.now l.self.n l.k)
