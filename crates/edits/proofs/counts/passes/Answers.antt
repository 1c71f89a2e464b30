-- `edits::counts::passes` meets its contract.
-- Assumes nothing.

use Rattle.edits.proofs.counts.passes.Goals as goal

pub returns-then-equal : goal.returns-then-equal
returns-then-equal c = simp c.if-equal.true

pub returns : goal.returns
returns c = simp c.if-equal.false
