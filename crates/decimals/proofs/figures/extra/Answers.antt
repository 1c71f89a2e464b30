-- One less than the divisor, or nothing.
-- Assumes nothing.
use Rattle.decimals.proofs.figures.extra.Goals as goal

pub returns-then-away : goal.returns-then-away
returns-then-away c = rw c.if-away.true

pub returns : goal.returns
returns c = rw c.if-away.false
