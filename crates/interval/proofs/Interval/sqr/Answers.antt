use Rattle.interval.specs.Ops.{sqr_of, contains_of}
use lib.Ieee.{of_bits}
use Rattle.interval.proofs.Interval.sqr.Goals as goal

pub returns-then-contains : goal.returns-then-contains
unfolding of_bits sqr_of contains_of
returns-then-contains c = rw (← c.contains.ensures, c.if-contains.true) (cc)

pub returns-else-contains : goal.returns-else-contains
unfolding of_bits sqr_of contains_of
returns-else-contains c = rw (← c.contains.ensures, c.if-contains.false) (cc)
