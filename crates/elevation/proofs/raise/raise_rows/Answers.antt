-- `elevation::raise::raise_rows` meets its contract.
-- Assumes nothing.
use Rattle.elevation.proofs.RaiseLoop.{times-start, times_more}
use Rattle.elevation.proofs.raise.raise_rows.Goals as goal

pub loop-d-init : goal.loop-d-init
loop-d-init c = times-start c.args.p c.args.e c.args.rows.now c.requires.p_le_e.0

pub loop-d-preserved : goal.loop-d-preserved
loop-d-preserved c = let a = c.args in
    let l = c.loop-d in
    times_more a.p a.e a.rows.now l.rows l.d l.invariant c.loop-d-test.true _ c.raise_once.ensures
