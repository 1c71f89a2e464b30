-- `knots::span::last_span` meets its contract: what is left to search is below the place reached.
-- Assumes nothing.
use mathlib.Core.Path.{sym, ◌∙◌}
use native.Mathlib.Omega.{arith}
use Rattle.knots.specs.Span.{nonempty}
use Rattle.knots.proofs.Last.{last-here, last-below, last_none}
use Rattle.knots.proofs.span.last_span.Goals as goal

pub returns-then-knots-span : goal.returns-then-knots-span
returns-then-knots-span c = sym (c.loop-span.invariant ∙ last-here (nonempty c.args.knots.now) _ _ (omega arith) c.if-knots-span.true)

pub loop-span-preserved : goal.loop-span-preserved
loop-span-preserved c = c.loop-span.invariant ∙ last-below (nonempty c.args.knots.now) _ _ (omega arith) c.if-knots-span.false

pub returns : goal.returns
returns c = sym (c.loop-span.invariant ∙ last_none (nonempty c.args.knots.now) _ _ (omega arith))
