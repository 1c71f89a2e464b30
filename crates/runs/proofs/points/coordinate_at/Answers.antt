-- `runs::points::coordinate_at` meets its contract.
-- Assumes nothing.
use mathlib.Core.Path.{sym, ◌∙◌}
use Prim.Native.Nat.{◌+◌, ◌*◌}
use native.Mathlib.Omega.{arith}
use Rattle.interval.proofs.Nans.{zero_by_zero}
use Rattle.runs.proofs.Outside.{at_out}
use Rattle.runs.proofs.points.coordinate_at.Goals as goal

pub returns-then-i-points : goal.returns-then-i-points
returns-then-i-points c = zero_by_zero ∙ sym (at_out c.args.points.now (c.args.i * 3 + c.args.k) (omega arith))

pub returns-then-k-points : goal.returns-then-k-points
returns-then-k-points c = zero_by_zero ∙ sym (at_out c.args.points.now (c.args.i * 3 + c.args.k) (omega arith))
