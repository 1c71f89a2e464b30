-- `made::front::made_refusal` meets its contract.
-- Assumes nothing.
use native.Mathlib.Omega.{arith}
use lib.ListN.{length-take}
use Rattle.made.proofs.front.made_refusal.Goals as goal

pub slice_bounds-k-end : goal.slice_bounds-k-end
slice_bounds-k-end c = simp length-take (omega arith)

pub slice_bounds-p-end : goal.slice_bounds-p-end
slice_bounds-p-end c = simp length-take (omega arith)

pub slice_bounds-w-end : goal.slice_bounds-w-end
slice_bounds-w-end c = simp length-take (omega arith)
