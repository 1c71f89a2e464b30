use Rattle.std.proofs.Common.{ap, ◌∙◌}
use lib.Ieee.{neg}
use Rattle.doubles.proofs.Neighbour.{neg-nan}
use Rattle.interval.proofs.step.below.Goals as goal

pub above-requires : goal.above-requires
above-requires c = neg-nan c.args.x ∙ c.requires

pub returns : goal.returns
unfolding Rattle.doubles.specs.Neighbour.down_from
returns c = ap neg c.above.ensures
