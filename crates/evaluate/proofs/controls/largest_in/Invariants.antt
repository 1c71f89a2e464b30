-- `evaluate::controls::largest_in` meets its contract.
-- Assumes nothing.
use Prim.Native.Nat.{◌+◌}
use mathlib.Core.Path.{◌≡◌}
use Rattle.runs.specs.Larger.{largest_from}
use Rattle.doubles.specs.Run.{at}
use Rattle.evaluate.proofs.controls.largest_in.Given as goal

abbrev pub invariant-loop-w : goal.invariant-loop-w
invariant-loop-w l = l.a ≡ largest_from l.m (λ k. at l.weights (l.first + k)) l.w-index
