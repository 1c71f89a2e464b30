-- `edits::inside::put_whole` meets its contract.
-- Assumes nothing.
use Prim.Native.Nat.{◌/◌}
use native.Mathlib.Omega.{arith}
use lib.ListN.{length, length-set}
use borrow.Author.Tests.{lt-ltb}
use Rattle.edits.specs.Passes.{row_put}
use Rattle.edits.proofs.inside.put_whole.Goals as goal

pub bounds-rows-at-2 : goal.bounds-rows-at-2
bounds-rows-at-2 c = simp length-set (omega arith)

pub bounds-rows-at-3 : goal.bounds-rows-at-3
bounds-rows-at-3 c = simp length-set (omega arith)

pub bounds-rows-at-then-rational : goal.bounds-rows-at-then-rational
bounds-rows-at-then-rational c = simp length-set (omega arith)

pub returns-then-rational : goal.returns-then-rational
unfolding row_put
returns-then-rational c = simp (lt-ltb c.args.i (length c.args.rows.now / 4) (omega arith), c.if-rational.true)

pub returns-else-rational : goal.returns-else-rational
unfolding row_put
returns-else-rational c = simp (lt-ltb c.args.i (length c.args.rows.now / 4) (omega arith), c.if-rational.false)
