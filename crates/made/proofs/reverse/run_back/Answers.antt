-- `made::reverse::run_back` meets its contract.
-- Assumes nothing.
use mathlib.Core.Path.{◌≡◌, ◌∙◌, ap}
use Prim.Native.Nat.{ℕ}
use native.Mathlib.Omega.{arith}
use Rattle.doubles.specs.Run.{at}
use Rattle.runs.proofs.Overlays.{store-none, store-more}
use Rattle.made.specs.Reverse.{back_number, back_at}
use Rattle.made.proofs.reverse.run_back.Goals as goal

pub loop-i-init : goal.loop-i-init
loop-i-init c = let a = c.args in store-none (back_at a.knot a.points a.lo a.hi a.n a.xs.now) a.back.now

pub loop-i-preserved : goal.loop-i-preserved
loop-i-preserved c = let a = c.args in
    let l = c.loop-i in
    store-more
    l.i (back_at a.knot a.points a.lo a.hi a.n a.xs.now) a.back.now l.back _ (omega arith) l.invariant
    (c.back_number.ensures ∙ ap (λ (j : ℕ). back_number a.knot a.lo a.hi (at a.xs.now j)) c.back_place-from.ensures.0)

pub returns : goal.returns
returns c = let e : c.loop-i.i ≡ c.args.n = omega arith in cc
