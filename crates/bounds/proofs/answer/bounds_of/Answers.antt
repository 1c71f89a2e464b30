use Rattle.bounds.specs.Answer.{bounds_of}
use Rattle.bounds.proofs.answer.bounds_of.Goals as goal

pub returns : goal.returns
unfolding bounds_of
returns c = cc
