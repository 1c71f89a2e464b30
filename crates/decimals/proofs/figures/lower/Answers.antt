-- A pass from the most significant figure down, with a rest.
-- Assumes nothing.
use native.Mathlib.Omega.{arith}
use Rattle.decimals.proofs.Passes.{lowering-start, lowering-step, lowering-end}
use Rattle.decimals.proofs.figures.lower.Goals as goal

pub loop-i-init : goal.loop-i-init
loop-i-init c = lowering-start _ _ c.requires.figures c.requires.g_nonzero

pub loop-i-preserved : goal.loop-i-preserved
loop-i-preserved c = lowering-step c.loop-i.invariant (omega arith)

pub returns-clause-run_after : goal.returns-clause-run_after
returns-clause-run_after c = lowering-end c.loop-i.invariant (omega arith)
