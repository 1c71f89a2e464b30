use Rattle.interval.specs.Ops.{sign_of}
use lib.Ieee.{of_bits}
use Rattle.interval.proofs.Interval.sign.Goals as goal

pub returns-then-self : goal.returns-then-self
unfolding of_bits sign_of
returns-then-self c = rw c.if-self.true

pub returns-then-self-2 : goal.returns-then-self-2
unfolding of_bits sign_of
returns-then-self-2 c = rw (c.if-self.false, c.if-self-2.true)

pub returns-then-self-4 : goal.returns-then-self-4
unfolding of_bits sign_of
returns-then-self-4 c = rw (c.if-self.false, c.if-self-2.false, c.if-self-3.true, c.if-self-4.true)

pub returns-else-self-4 : goal.returns-else-self-4
unfolding of_bits sign_of
returns-else-self-4 c = rw (c.if-self.false, c.if-self-2.false, c.if-self-3.true, c.if-self-4.false)

pub returns-else-self-3 : goal.returns-else-self-3
unfolding of_bits sign_of
returns-else-self-3 c = rw (c.if-self.false, c.if-self-2.false, c.if-self-3.false)
