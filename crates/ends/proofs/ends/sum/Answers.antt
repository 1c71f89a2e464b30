use Rattle.ends.specs.Ends.{sum_of}
use Rattle.ends.proofs.ends.sum.Goals as goal

pub returns : goal.returns
unfolding sum_of
returns c = rw (c.step.ensures, c.step-2.ensures)
