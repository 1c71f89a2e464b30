-- `elevation::raise::raise_once` meets its contract.
-- Assumes nothing.
use native.Mathlib.Omega.{arith}
use Rattle.elevation.proofs.RaiseLoop.{raise-start, raise-more, raise-end}
use Rattle.elevation.proofs.raise.raise_once.Goals as goal

pub loop-i-init : goal.loop-i-init
loop-i-init c = raise-start c.args.d c.args.rows.now c.requires.d_in_bounds

pub loop-i-preserved : goal.loop-i-preserved
loop-i-preserved c = let a = c.args in
    let l = c.loop-i in
    raise-more
    a.d a.rows.now c.requires.d_in_bounds l.rows l.i l.invariant
    c.loop-i-test.true _ c.raise_at-q.ensures _ c.put_row.ensures

pub returns : goal.returns
returns c = let a = c.args in
    let l = c.loop-i in
    raise-end
    a.d a.rows.now c.requires.d_in_bounds l.rows l.i l.invariant (let t = c.loop-i-test.false in omega arith) _
    c.row_at-end.ensures _ c.put_row-2.ensures
