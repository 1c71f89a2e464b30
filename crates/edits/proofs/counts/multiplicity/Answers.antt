-- `edits::counts::multiplicity` meets its contract.
-- Assumes nothing.
use Rattle.edits.specs.Counts.{multiplicity_of}
use Rattle.edits.proofs.counts.multiplicity.Goals as goal

pub returns : goal.returns
unfolding multiplicity_of
returns c = c.count.ensures
