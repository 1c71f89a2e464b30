use Rattle.jets.specs.Net.{share_at}
use Rattle.bounds.proofs.flat.flat_step_at.Goals as goal

pub returns : goal.returns
unfolding share_at
returns c = c.flat_step.ensures
