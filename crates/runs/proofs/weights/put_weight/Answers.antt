-- `runs::weights::put_weight` meets its contract.
-- Assumes nothing.
use Rattle.runs.proofs.weights.put_weight.Goals as goal

pub returns-then-rational : goal.returns-then-rational
returns-then-rational c = rw c.if-rational.true c.put_number.ensures
