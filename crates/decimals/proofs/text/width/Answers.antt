-- A number has one digit more than its whole logarithm.
-- Assumes nothing.
use mathlib.Core.Path.{sym}
use native.Mathlib.Nat.{pow-succ'}
use native.Mathlib.Numerals.{add-one}
use native.Mathlib.Omega.{arith}
use Rattle.decimals.proofs.Places.{width_is}
use Rattle.decimals.proofs.text.width.Goals as goal

pub returns-then-n-lt10-clause-value : goal.returns-then-n-lt10-clause-value
returns-then-n-lt10-clause-value c = sym (width_is 19 0 c.args.n (omega arith) (omega arith) (λ h. absurd (omega arith)))

pub returns-else-n-lt10-clause-value : goal.returns-else-n-lt10-clause-value
returns-else-n-lt10-clause-value c = let log = c.ilog10.ensures in
    rw add-one (sym (width_is 19 c.ilog10.result c.args.n (omega arith) (rw pow-succ' log.next_power_gt) (λ _. log.power_le)))
