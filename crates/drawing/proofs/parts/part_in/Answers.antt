-- By the test.
-- Assumes nothing.
use mathlib.Core.Path.{refl}
use native.Mathlib.Omega.{arith}
use borrow.Author.Tests.{lt-ltb, le-ltb}
use Rattle.drawing.specs.Drawing.{part_of}
use Rattle.drawing.proofs.parts.part_in.Goals as goal

pub returns-then-part-parts-clause-value : goal.returns-then-part-parts-clause-value
unfolding part_of
returns-then-part-parts-clause-value c = rw (lt-ltb _ _ c.if-part-parts.true) refl

pub returns-then-part-parts-clause-upper_bound : goal.returns-then-part-parts-clause-upper_bound
unfolding part_of
returns-then-part-parts-clause-upper_bound c = c.if-part-parts.true

pub returns : goal.returns
unfolding part_of
returns c = let h = c.requires in
    record {
      value = rw (le-ltb _ _ c.if-part-parts.false) refl;
      upper_bound = omega arith;
    }
