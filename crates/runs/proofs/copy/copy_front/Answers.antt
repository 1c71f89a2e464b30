-- `runs::copy::copy_front` meets its contract.
-- Assumes nothing.
use mathlib.Core.Path.{◌≡◌, refl, ◌∙◌, ap}
use Prim.Native.Nat.{ℕ}
use mathlib.Core.List.{List, ◌++◌}
use native.Mathlib.Omega.{arith}
use lib.ListN.{drop, length-set}
use lib.Ieee.{Float}
use Rattle.doubles.specs.Run.{at}
use Rattle.runs.specs.Tabulate.{tabulate}
use Rattle.runs.proofs.Tabulated.{tabulate-take}
use Rattle.runs.proofs.Overlays.{store-none, store-more}
use Rattle.runs.proofs.copy.copy_front.Goals as goal

pub loop-i-init : goal.loop-i-init
loop-i-init c = (omega arith, refl, store-none (at c.args.xs.now) c.args.out.now)

pub loop-i-preserved : goal.loop-i-preserved
loop-i-preserved c = let L = c.loop-i in
    let a = c.args in
    (omega arith, length-set L.out L.i _ ∙ L.invariant.1, store-more L.i (at a.xs.now) a.out.now L.out _ (omega arith) L.invariant.2 refl)

pub returns : goal.returns
returns c = let a = c.args in
    let e : c.loop-i.i ≡ a.n = omega arith in
    c.loop-i.invariant.2
    ∙ (ap (λ (k : ℕ). tabulate k (at a.xs.now) ++ drop k a.out.now) e
    ∙ ap (λ (l : List Float). l ++ drop a.n a.out.now) (tabulate-take a.n a.xs.now (omega arith)))
