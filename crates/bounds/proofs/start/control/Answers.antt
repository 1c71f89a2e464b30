use Rattle.bounds.specs.Start.{control_of}
use Rattle.bounds.proofs.start.control.Goals as goal

pub returns : goal.returns
unfolding control_of
returns c = rw (
  c.constant.ensures,
  c.moved-3.ensures,
  c.moved-2.ensures,
  c.moved.ensures,
  c.mul-q.ensures,
  c.point.ensures,
)
