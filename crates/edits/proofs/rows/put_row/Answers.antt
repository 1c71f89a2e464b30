-- `edits::rows::put_row` meets its contract.
-- Assumes nothing.
use Prim.Native.Nat.{◌/◌}
use native.Mathlib.Omega.{arith}
use lib.ListN.{length}
use borrow.Author.Tests.{le-ltb}
use Rattle.edits.specs.Passes.{row_put}
use Rattle.edits.proofs.rows.put_row.Goals as goal

pub returns-then-i-rows : goal.returns-then-i-rows
unfolding row_put
returns-then-i-rows c = simp (le-ltb c.args.i (length c.args.rows.now / 4) (omega arith))

pub returns : goal.returns
returns c = c.put_whole.ensures
