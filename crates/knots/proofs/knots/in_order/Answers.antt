use Prim.Native.Nat.{◌+◌, ◌-◌}
use mathlib.Core.Path.{◌≡◌, refl, ◌∙◌, ap}
use mathlib.Core.Bool.{not}
use native.Mathlib.Omega.{arith}
use lib.ListN.{length}
use Rattle.doubles.specs.Run.{at}
use Rattle.knots.specs.Below.{all_below}
use Rattle.knots.proofs.Below.{all-step}
use lib.Ieee.{lt}
use Rattle.knots.specs.Knots.{in_order}
use Rattle.knots.proofs.knots.in_order.Goals as goal

pub loop-i-init : goal.loop-i-init
unfolding all_below
loop-i-init c = refl

pub loop-i-preserved : goal.loop-i-preserved
loop-i-preserved c = let xs = c.args.xs.now in all-step (λ k. not (lt (at xs (k + 1)) (at xs k))) c.loop-i.i _ _ c.loop-i.invariant refl

pub returns : goal.returns
unfolding in_order
returns c = let xs = c.args.xs.now in
    let e : c.loop-i.i ≡ length xs - 1 = omega arith in
    c.loop-i.invariant ∙ ap (all_below (λ k. not (lt (at xs (k + 1)) (at xs k)))) e
