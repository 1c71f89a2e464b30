-- `evaluate::controls::weight_at` meets its contract.
-- Assumes nothing.
use lib.Ieee.{of_bits}
use borrow.Author.Rules.{rules}
use Rattle.runs.specs.Scale.{weight_of}
use Rattle.evaluate.proofs.controls.weight_at.Goals as goal

pub offset_bounds-weights-i : goal.offset_bounds-weights-i
offset_bounds-weights-i c = let h = c.requires c.if-rational.true in
    search rules

pub bounds-weights-i : goal.bounds-weights-i
bounds-weights-i c = let h = c.requires c.if-rational.true in
    search rules

pub returns-then-rational : goal.returns-then-rational
unfolding weight_of of_bits
returns-then-rational c = simp c.if-rational.true

pub returns : goal.returns
unfolding weight_of of_bits
returns c = simp c.if-rational.false
