-- `made::reverse::given_len` meets its contract.
-- Assumes nothing.
use Rattle.made.specs.Reverse.{given_length}
use Rattle.made.proofs.reverse.given_len.Goals as goal

pub returns-then-rational : goal.returns-then-rational
unfolding given_length
returns-then-rational c = simp c.if-rational.true

pub returns-else-rational : goal.returns-else-rational
unfolding given_length
returns-else-rational c = simp c.if-rational.false
