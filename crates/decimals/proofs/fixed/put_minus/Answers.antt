-- A sign, or none.
-- Assumes nothing.
use native.Mathlib.Omega.{arith}
use mathlib.Core.Path.{refl}
use Rattle.decimals.proofs.fixed.put_minus.Goals as goal

pub returns-then-negative : goal.returns-then-negative
returns-then-negative c = rw c.if-negative.true (record {
  out_after = refl;
  value = refl;
  upper_bound = omega arith;
})

pub returns : goal.returns
returns c = rw c.if-negative.false (record {
  out_after = refl;
  value = omega arith;
  upper_bound = omega arith;
})
