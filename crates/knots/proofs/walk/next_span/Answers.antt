-- `knots::walk::next_span` meets its contract: by whether the place lies before the first span.
-- Assumes nothing.
use mathlib.Core.Path.{◌∙◌}
use borrow.Author.Tests.{lt-ltb, le-ltb}
use Rattle.knots.proofs.walk.next_span.Goals as goal

pub returns-then-from-degree : goal.returns-then-from-degree
returns-then-from-degree c = c.next_from.ensures ∙ simp (lt-ltb _ _ c.if-from-degree.true)

pub returns : goal.returns
returns c = c.next_from-2.ensures ∙ simp (le-ltb _ _ c.if-from-degree.false)
