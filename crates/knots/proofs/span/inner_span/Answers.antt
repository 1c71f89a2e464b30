-- `knots::span::inner_span` meets its contract: what is left to search is the window, which halves.
-- Assumes nothing.
use Prim.Native.Nat.{◌-◌}
use native.Mathlib.Omega.{arith}
use Rattle.knots.proofs.Halving.{window-start, window-lower, window-upper, window-end}
use Rattle.knots.proofs.span.inner_span.Goals as goal

pub loop-high-init : goal.loop-high-init
loop-high-init c = window-start _ _ _ _ (omega arith)

pub loop-high-smaller-then-v-knots : goal.loop-high-smaller-then-v-knots
loop-high-smaller-then-v-knots c = omega arith

pub loop-high-preserved-then-v-knots : goal.loop-high-preserved-then-v-knots
loop-high-preserved-then-v-knots c = window-lower _ _ _ _ _ _ _ c.loop-high.invariant (omega arith) c.if-v-knots.true

pub loop-high-smaller : goal.loop-high-smaller
loop-high-smaller c = omega arith

pub loop-high-preserved : goal.loop-high-preserved
loop-high-preserved c = window-upper _ _ _ _ _ _ _ c.loop-high.invariant (omega arith) c.if-v-knots.false

pub returns : goal.returns
returns c = window-end _ _ _ _ _ _ _ c.loop-high.invariant (omega arith)
