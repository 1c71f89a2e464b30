-- The number divided by what is left of the power stays the same.
-- Assumes nothing.
use Prim.Native.Nat.{◌+◌, ◌-◌, ◌*◌}
use native.Mathlib.Nat.{le_trans}
use native.Mathlib.Omega.{arith}
use mathlib.Core.Path.{◌≡◌, sym, ◌∙◌}
use lib.Pow.{pow_pos}
use Rattle.decimals.proofs.Rounding.{halving-step, whole-one, whole_le}
use Rattle.decimals.proofs.figures.halve.Goals as goal

pub loop-preserved : goal.loop-preserved
loop-preserved c = let i = c.loop.invariant in
    let left = c.args.k - 32 * c.loop.counter in
    let e : c.args.k - 32 * (c.loop.counter + 1) ≡ left - 32 = omega arith in (
      c.divide.ensures.figures_2,
      rw (c.divide.ensures.run_after, c.power.ensures) (le_trans (whole_le _ _ _ (pow_pos 32)) i.1),
      rw (c.divide.ensures.run_after, c.power.ensures, e) (halving-step _ _ 32 left (omega arith) ∙ i.2),
    )

pub returns-else-k-gt0-clause-run_after : goal.returns-else-k-gt0-clause-run_after
returns-else-k-gt0-clause-run_after c =
    let e : c.args.k - 32 * c.loop.counter ≡ 0 = omega arith in
    sym (whole-one _ _) ∙ rw e at c.loop.invariant.2
