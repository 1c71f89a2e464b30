-- `evaluate::controls::term_of` meets its contract.
-- Assumes nothing.
use Rattle.evaluate.specs.Controls.{term_of}
use Rattle.evaluate.proofs.controls.term_of.Goals as goal

pub returns-then-two : goal.returns-then-two
unfolding term_of
returns-then-two c = simp c.if-two.true

pub returns : goal.returns
unfolding term_of
returns c = simp c.if-two.false
