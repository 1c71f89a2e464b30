-- `edits::counts::below` meets its contract.
-- Assumes nothing.
use Rattle.edits.specs.Counts.{below_of}
use Rattle.edits.proofs.counts.below.Goals as goal

pub returns : goal.returns
unfolding below_of
returns c = c.count.ensures
