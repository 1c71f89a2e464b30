use lib.Ieee.{of_bits}
use Rattle.ends.specs.Flat.{flat_mix}
use Rattle.ends.proofs.flat.mix.Goals as goal

pub returns-then-are_factors : goal.returns-then-are_factors
unfolding flat_mix of_bits
returns-then-are_factors c = rw (← c.point.ensures, ← c.sub-beta.ensures, ← c.factor_of-p.ensures, ← c.factor_of-q.ensures, ← c.are_factors.ensures, c.if-are_factors.true, c.dot.ensures, c.dot-then-are_factors.ensures, c.dot-then-are_factors-2.ensures, c.dot-then-are_factors-3.ensures)

pub returns-else-are_factors : goal.returns-else-are_factors
unfolding flat_mix of_bits
returns-else-are_factors c = rw (← c.point.ensures, ← c.sub-beta.ensures, ← c.factor_of-p.ensures, ← c.factor_of-q.ensures, ← c.are_factors.ensures, c.if-are_factors.false) c.mixed_by.ensures
