use Prim.Native.Nat.{◌+◌, ◌-◌}
use mathlib.Core.Path.{◌≡◌, refl, ◌∙◌, ap}
use mathlib.Core.Bool.{not}
use native.Mathlib.Omega.{arith}
use lib.ListN.{length}
use Rattle.doubles.specs.Run.{at}
use Rattle.knots.specs.Below.{all_below}
use Rattle.knots.proofs.Below.{all-step}
use lib.Ieee.{le}
use Rattle.knots.specs.Knots.{apart}
use Rattle.knots.proofs.knots.apart_by.Goals as goal

pub loop-i-init : goal.loop-i-init
unfolding all_below
loop-i-init c = refl

pub loop-i-preserved : goal.loop-i-preserved
loop-i-preserved c = let a = c.args in
    all-step (λ k. not (le (at a.xs.now (k + a.gap)) (at a.xs.now k))) c.loop-i.i _ _ c.loop-i.invariant c.is_below-fine.ensures

pub returns : goal.returns
unfolding apart
returns c = let a = c.args in
    let e : c.loop-i.i ≡ length a.xs.now - a.gap = omega arith in
    c.loop-i.invariant ∙ ap (all_below (λ k. not (le (at a.xs.now (k + a.gap)) (at a.xs.now k)))) e
