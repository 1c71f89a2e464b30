use Rattle.jets.specs.Net.{share_at}
use Rattle.bounds.proofs.levels.step_at.Goals as goal

pub returns : goal.returns
unfolding share_at
returns c = c.step.ensures
