-- `knots::places::first_pair` meets its contract: all numbers before the place reached stand before those a gap further on.
-- Assumes nothing.
use Prim.Native.Nat.{◌-◌}
use mathlib.Core.Path.{◌≡◌, sym, ◌∙◌}
use native.Mathlib.Omega.{arith}
use lib.ListN.{length}
use Rattle.knots.proofs.Below.{all_none, all_more, off-none, off-all, off-stops}
use Rattle.knots.proofs.places.first_pair.Goals as goal

pub returns-then-xs-gap : goal.returns-then-xs-gap
returns-then-xs-gap c = sym (off-none _ _ (omega arith))

pub loop-k-init : goal.loop-k-init
loop-k-init c = all_none _

pub returns-then-not-is_before : goal.returns-then-not-is_before
returns-then-not-is_before c = let l = c.loop-k in
    sym (off-stops _ _ l.k (omega arith) l.invariant (sym c.is_before.ensures ∙ c.if-not-is_before.true))

pub loop-k-preserved : goal.loop-k-preserved
loop-k-preserved c = let l = c.loop-k in all_more _ l.k l.invariant (sym c.is_before.ensures ∙ c.if-not-is_before.false)

pub returns : goal.returns
returns c = let e : c.loop-k.k ≡ length c.args.xs.now - c.args.gap = omega arith in sym (off-all _ _ (rw (← e) c.loop-k.invariant))
