-- `insertion::put_knot::put_knot` meets its contract.
-- Assumes nothing.
use mathlib.Core.Path.{◌∙◌}
use lib.ListN.{length-set}
use native.Mathlib.Omega.{arith}
use Rattle.insertion.proofs.Storing.{put-start, put-more, put-end}
use Rattle.insertion.proofs.put_knot.put_knot.Goals as goal

pub loop-i-init : goal.loop-i-init
loop-i-init c = put-start c.args.k c.args.m c.args.t c.args.knots.now c.requires.0 c.requires.1

pub loop-i-preserved : goal.loop-i-preserved
loop-i-preserved c = let a = c.args in
    let q = c.requires in
    put-more
    a.k a.m a.t a.knots.now q.0 q.1 c.loop-i.knots c.loop-i.carry c.loop-i.i c.loop-i.invariant
    (omega (arith, c.loop-i-test.true)) (length-set c.loop-i.knots c.loop-i.i _ ∙ c.loop-i.invariant.long)

pub returns : goal.returns
returns c = put-end
    c.args.k c.args.m c.args.t c.args.knots.now c.requires.0 c.requires.1
    c.loop-i.knots c.loop-i.carry c.loop-i.i c.loop-i.invariant (omega (arith, c.loop-i-test.false))
