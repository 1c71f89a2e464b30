-- Figures that are 0 are left out from the top.
-- Assumes nothing.
use Prim.Native.Nat.{◌+◌, ◌-◌}
use native.Mathlib.Omega.{arith}
use mathlib.Core.Path.{◌≡◌}
use Rattle.decimals.proofs.Passes.{number_small}
use Rattle.decimals.proofs.Places.{nothing-there, something-there}
use Rattle.decimals.proofs.figures.count.Goals as goal

pub loop-i-init : goal.loop-i-init
loop-i-init c = number_small _ c.requires

pub returns-then-run-i-ne0-clause-result_bound : goal.returns-then-run-i-ne0-clause-result_bound
returns-then-run-i-ne0-clause-result_bound c = let e : c.loop-i.i - 1 + 1 - 1 ≡ c.loop-i.i - 1 = omega arith in
    λ _. rw e (something-there _ _ c.requires c.if-run-i-ne0.true)

pub loop-i-preserved : goal.loop-i-preserved
loop-i-preserved c = nothing-there _ _ c.requires (omega arith) c.loop-i.invariant c.if-run-i-ne0.false
