-- `knots::places::first_off` meets its contract: all numbers before the place reached are fine.
-- Assumes nothing.
use mathlib.Core.Path.{◌≡◌, sym, ◌∙◌}
use native.Mathlib.Omega.{arith}
use lib.ListN.{length}
use Rattle.knots.proofs.Below.{all_none, all_more, off-all, off-stops}
use Rattle.knots.proofs.places.first_off.Goals as goal

pub loop-i-init : goal.loop-i-init
loop-i-init c = all_none _

pub returns-then-not-is_fine : goal.returns-then-not-is_fine
returns-then-not-is_fine c = let l = c.loop-i in
    sym (off-stops _ _ l.i (omega arith) l.invariant (sym c.is_fine.ensures ∙ c.if-not-is_fine.true))

pub loop-i-preserved : goal.loop-i-preserved
loop-i-preserved c = let l = c.loop-i in all_more _ l.i l.invariant (sym c.is_fine.ensures ∙ c.if-not-is_fine.false)

pub returns : goal.returns
returns c = let e : c.loop-i.i ≡ length c.args.xs.now = omega arith in sym (off-all _ _ (rw (← e) c.loop-i.invariant))
