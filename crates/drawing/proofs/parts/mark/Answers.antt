-- By the tests.
-- Assumes nothing.
use mathlib.Core.Path.{refl}
use borrow.Author.Tests.{eq-eqb, ne_eqb}
use Rattle.drawing.specs.Drawing.{mark_of}
use Rattle.drawing.proofs.parts.mark.Goals as goal

pub returns-then-j-eq0 : goal.returns-then-j-eq0
unfolding mark_of
returns-then-j-eq0 c = rw (eq-eqb _ _ c.if-j-eq0.true) refl

pub returns-then-j-k : goal.returns-then-j-k
unfolding mark_of
returns-then-j-k c = rw (ne_eqb _ _ c.if-j-eq0.false, eq-eqb _ _ c.if-j-k.true) refl

pub returns : goal.returns
unfolding mark_of
returns c = rw (ne_eqb _ _ c.if-j-eq0.false, ne_eqb _ _ c.if-j-k.false, c.as_double.ensures, c.as_double-2.ensures) refl
