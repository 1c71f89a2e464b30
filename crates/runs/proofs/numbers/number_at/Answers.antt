-- `runs::numbers::number_at` meets its contract.
-- Assumes nothing.
use mathlib.Core.Path.{sym, ◌∙◌}
use native.Mathlib.Omega.{arith}
use Rattle.interval.proofs.Nans.{zero_by_zero}
use Rattle.runs.proofs.Outside.{at_out}
use Rattle.runs.proofs.numbers.number_at.Goals as goal

pub returns : goal.returns
returns c = zero_by_zero ∙ sym (at_out c.args.xs.now c.args.i (omega arith))
