use Rattle.ends.specs.Flat.{dot_by}
use Rattle.ends.proofs.flat.dot_by.Goals as goal

pub returns : goal.returns
unfolding dot_by
returns c = rw (
  c.ends_of.ensures,
  c.add.ensures,
  c.mul-2.ensures,
  c.interval_of-2.ensures,
  c.mul.ensures,
  c.interval_of.ensures,
)
