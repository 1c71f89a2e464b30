-- `runs::numbers::put_number` meets its contract.
-- Assumes nothing.
use mathlib.Core.Path.{sym}
use native.Mathlib.Omega.{arith}
use lib.Seq.{set_out}
use Rattle.runs.proofs.numbers.put_number.Goals as goal

pub returns-else-i-xs : goal.returns-else-i-xs
returns-else-i-xs c = sym (set_out c.args.xs.now c.args.i c.args.x (omega arith))
