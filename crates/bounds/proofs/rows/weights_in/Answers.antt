use Rattle.bounds.specs.Surface.{net_extremes}
use Rattle.bounds.proofs.rows.weights_in.Goals as goal

pub returns : goal.returns
unfolding net_extremes
returns c = rw (c.range_of.ensures, c.net_extremes-found.ensures)
