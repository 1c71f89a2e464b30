-- `runs::larger::larger_of` meets its contract.
-- Assumes nothing.

use Rattle.runs.proofs.larger.larger_of.Goals as goal

pub returns-then-a-b : goal.returns-then-a-b
returns-then-a-b c = simp c.if-a-b.true

pub returns : goal.returns
returns c = simp c.if-a-b.false
