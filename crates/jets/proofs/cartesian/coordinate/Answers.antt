use Rattle.jets.specs.Cartesian.{coordinate_of}
use Rattle.jets.proofs.cartesian.coordinate.Goals as goal

pub returns : goal.returns
unfolding coordinate_of
returns c = rw (
  c.mul-4.ensures,
  c.sub-2.ensures,
  c.mul-3.ensures,
  c.mul-2.ensures,
  c.sub.ensures,
  c.mul.ensures,
  c.add.ensures,
  c.point.ensures,
  c.mul-q.ensures,
)
