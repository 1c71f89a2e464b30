use Rattle.bounds.specs.Start.{extremes_of, weights_of}
use Rattle.bounds.proofs.start.weights_of.Goals as goal

pub returns : goal.returns
unfolding weights_of extremes_of
returns c = rw (c.range_of.ensures, c.extreme_weights-found.ensures, c.no_extremes.ensures)
