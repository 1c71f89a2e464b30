-- The digits, the last one first. The invariant says what is left: the digits of the rest, stored into the run as it is, give the run that is asked for.
-- Assumes nothing.
use mathlib.Core.Path.{sym, ◌∙◌}
use native.Mathlib.Omega.{arith}
use Rattle.decimals.proofs.Digits.{digits-left, digits-none}
use Rattle.decimals.proofs.text.put_digits.Goals as goal

pub loop-i-preserved : goal.loop-i-preserved
loop-i-preserved c = rw c.digit.ensures (digits-left _ _ _ c.loop-i.i _ (omega arith) ∙ c.loop-i.invariant)

pub returns : goal.returns
returns c = sym (digits-none _ _ _ _ _ (omega arith)) ∙ c.loop-i.invariant
