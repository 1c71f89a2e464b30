use Rattle.interval.specs.Ops.{point_of}
use Rattle.interval.proofs.Interval.point.Goals as goal

pub returns-then-is_nan : goal.returns-then-is_nan
unfolding point_of
returns-then-is_nan c = rw (← c.is_nan.ensures, c.if-is_nan.true) c.entire.ensures

pub returns-else-is_nan : goal.returns-else-is_nan
unfolding point_of
returns-else-is_nan c = rw (← c.is_nan.ensures, c.if-is_nan.false)
