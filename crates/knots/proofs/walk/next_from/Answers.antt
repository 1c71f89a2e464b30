-- `knots::walk::next_from` meets its contract: what is left to search starts at the place reached.
-- Assumes nothing.
use mathlib.Core.Path.{sym, ◌∙◌}
use native.Mathlib.Omega.{arith}
use Rattle.knots.proofs.Walks.{walk_here, walk-on, walk_end, walk-past}
use Rattle.knots.proofs.walk.next_from.Goals as goal

pub returns-then-knots-span : goal.returns-then-knots-span
returns-then-knots-span c = walk-past _ _ _ (omega arith) ∙ sym c.loop-span.invariant

pub returns-then-knots-span-2 : goal.returns-then-knots-span-2
returns-then-knots-span-2 c = walk_here _ _ _ (omega arith) c.if-knots-span-2.true ∙ sym c.loop-span.invariant

pub loop-span-preserved : goal.loop-span-preserved
loop-span-preserved c = c.loop-span.invariant ∙ walk-on _ _ _ (omega arith) c.if-knots-span-2.false

pub returns : goal.returns
returns c = walk_end _ _ _ (omega arith) ∙ sym c.loop-span.invariant
