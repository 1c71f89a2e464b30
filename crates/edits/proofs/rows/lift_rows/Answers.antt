-- `edits::rows::lift_rows` meets its contract.
-- Assumes nothing.
use mathlib.Core.Path.{sym, ◌∙◌, ap}
use native.Mathlib.Omega.{arith}
use Rattle.edits.specs.Passes.{lift_row}
use Rattle.edits.proofs.LiftLoop.{lift-start, lift-stop, lift-more}
use Rattle.edits.proofs.RowStores.{row_put-done}
use Rattle.edits.proofs.rows.lift_rows.Goals as goal

pub loop-i-init : goal.loop-i-init
loop-i-init c = lift-start c.args.rational c.args.o c.args.scale c.args.n c.args.rows.now

pub returns-then-not-is_lifted : goal.returns-then-not-is_lifted
returns-then-not-is_lifted c = let a = c.args in
    let l = c.loop-i in
    lift-stop
    a.rational a.o a.scale a.n a.rows.now _ l.i l.invariant c.loop-i-test.true _
    (c.lift_row-q.ensures ∙ ap (lift_row _ a.o a.rational) c.whole_row.ensures) (sym c.is_lifted.ensures ∙ c.if-not-is_lifted.true)

pub loop-i-preserved : goal.loop-i-preserved
loop-i-preserved c = let a = c.args in
    let lp = c.loop-i in
    lift-more
    a.rational a.o a.scale a.n a.rows.now _ lp.i lp.invariant c.loop-i-test.true _
    (c.lift_row-q.ensures ∙ ap (lift_row _ a.o a.rational) c.whole_row.ensures)
    (sym c.is_lifted.ensures ∙ c.if-not-is_lifted.false) _ c.put_whole.auto.rows
    (row_put-done
    lp.i _ _
    (let t = c.loop-i-test.true in
    let p = c.requires in let l = lp.invariant.done.long in omega arith)
    a.rational _ c.put_whole.ensures)
