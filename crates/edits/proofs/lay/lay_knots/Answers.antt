-- `edits::lay::lay_knots` meets its contract.
-- Assumes nothing.
use native.Mathlib.Omega.{arith}
use Rattle.edits.proofs.IntoRun.{knots-start, knots-more, knots-end}
use Rattle.edits.proofs.lay.lay_knots.Goals as goal

pub loop-i-init : goal.loop-i-init
loop-i-init c = knots-start c.args.a c.args.knots.now c.args.work.now

pub loop-i-preserved : goal.loop-i-preserved
loop-i-preserved c = let a = c.args in
    knots-more a.a a.knots.now a.work.now _ c.loop-i.i c.loop-i.invariant c.loop-i-test.true c.requires

pub returns : goal.returns
returns c = knots-end
    c.args.a c.args.knots.now c.args.work.now _ c.loop-i.i c.loop-i.invariant (omega (arith, c.loop-i-test.false))
    c.requires
