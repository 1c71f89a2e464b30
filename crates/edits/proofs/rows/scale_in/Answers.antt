-- `edits::rows::scale_in` meets its contract.
-- Assumes nothing.
use native.Mathlib.Omega.{arith}
use lib.Ieee.{of_bits}
use Rattle.edits.proofs.RowReads.{scale-short, scale-true, scale-false}
use Rattle.edits.proofs.rows.scale_in.Goals as goal

pub returns-then-n-rows : goal.returns-then-n-rows
unfolding of_bits
returns-then-n-rows c = scale-short c.args.n c.args.rational c.args.rows.now (omega arith)

pub returns-then-rational : goal.returns-then-rational
returns-then-rational c = let a = c.args in
    scale-true a.n a.rational a.rows.now (omega arith) c.if-rational.true c.largest_weight.ensures

pub returns : goal.returns
unfolding of_bits
returns c = scale-false c.args.n c.args.rational c.args.rows.now (omega arith) c.if-rational.false
