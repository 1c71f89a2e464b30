-- `made::reverse::back_number` meets its contract.
-- Assumes nothing.
use Rattle.made.specs.Reverse.{back_number}
use Rattle.made.proofs.reverse.back_number.Goals as goal

pub returns-then-knot : goal.returns-then-knot
unfolding back_number
returns-then-knot c = simp c.if-knot.true

pub returns : goal.returns
unfolding back_number
returns c = simp c.if-knot.false
