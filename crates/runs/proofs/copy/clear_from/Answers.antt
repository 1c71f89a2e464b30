-- `runs::copy::clear_from` meets its contract.
-- Assumes nothing.
use native.Mathlib.Omega.{arith}
use lib.Ieee.{of_bits}
use Rattle.runs.proofs.Cleared.{cleared-behind, none-behind}
use Rattle.runs.proofs.copy.clear_from.Goals as goal

pub returns-then-from-xs : goal.returns-then-from-xs
unfolding of_bits
returns-then-from-xs c = cleared-behind c.args.from c.args.xs.now c.fill.new.self (omega arith) (c.fill.ensures.after (λ y h. h))

pub returns-else-from-xs : goal.returns-else-from-xs
returns-else-from-xs c = none-behind c.args.from c.args.xs.now c.if-from-xs.false
