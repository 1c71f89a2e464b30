use lib.Ieee.{neg}
use Rattle.std.proofs.Common.{ap}
use Rattle.interval.proofs.float.next_down.Goals as goal

pub returns : goal.returns
unfolding Rattle.doubles.specs.Neighbour.down_from
returns c = ap neg c.next_up.ensures
