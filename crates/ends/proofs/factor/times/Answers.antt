use Rattle.ends.specs.Ends.{times_of}
use Rattle.ends.proofs.factor.times.Goals as goal

pub returns : goal.returns
unfolding times_of
returns c = rw (c.step.ensures, c.most-3.ensures, c.most-2.ensures, c.most.ensures, c.step-2.ensures, c.most-6.ensures, c.most-5.ensures, c.most-4.ensures)
