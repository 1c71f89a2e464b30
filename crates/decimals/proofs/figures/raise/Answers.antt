-- A pass from the least significant figure up, with a carry.
-- Assumes nothing.
use native.Mathlib.Omega.{arith}
use Rattle.decimals.proofs.Passes.{raising-start, raising-step, raising-end}
use Rattle.decimals.proofs.figures.raise.Goals as goal

pub loop-d-init : goal.loop-d-init
loop-d-init c = raising-start _ _ _ c.requires.figures c.requires.c_bound

pub loop-d-preserved : goal.loop-d-preserved
loop-d-preserved c = raising-step c.requires.f_bound c.loop-d.invariant (omega arith)

pub returns-clause-run_after : goal.returns-clause-run_after
returns-clause-run_after c = raising-end c.loop-d.invariant (omega arith) c.requires.c_bound_2
