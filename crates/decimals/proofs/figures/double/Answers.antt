-- The number times what is left of the power stays the same.
-- Assumes nothing.
use Prim.Native.Nat.{◌+◌, ◌-◌, ◌*◌}
use native.Mathlib.Omega.{arith}
use mathlib.Core.Path.{◌≡◌, ◌∙◌}
use Rattle.decimals.proofs.Rounding.{doubling-step, doubling-fits}
use Rattle.decimals.proofs.figures.double.Goals as goal

pub raise-requires-clause-c_bound_2 : goal.raise-requires-clause-c_bound_2
raise-requires-clause-c_bound_2 c = rw (c.power.ensures, c.loop.auto.run)
    (doubling-fits _ 32 (c.args.k - 32 * c.loop.counter) _ (omega arith) (rw c.loop.invariant.1 c.requires.k_bound))

pub loop-preserved : goal.loop-preserved
loop-preserved c = let left = c.args.k - 32 * c.loop.counter in
    let e : c.args.k - 32 * (c.loop.counter + 1) ≡ left - 32 = omega arith in (
      c.raise.ensures.figures_2,
      rw (c.raise.ensures.run_after, c.power.ensures, e) (doubling-step _ 32 left (omega arith) ∙ c.loop.invariant.1),
    )
