use Rattle.ends.specs.Ends.{is_factor}
use Rattle.ends.proofs.factor.is_factor.Goals as goal

pub returns-then-is_part : goal.returns-then-is_part
unfolding is_factor
returns-then-is_part c = rw (← c.is_part.ensures, c.if-is_part.true) c.is_part-then-is_part.ensures

pub returns-else-is_part : goal.returns-else-is_part
unfolding is_factor
returns-else-is_part c = rw (← c.is_part.ensures, c.if-is_part.false)
