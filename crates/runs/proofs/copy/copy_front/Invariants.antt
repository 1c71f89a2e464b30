-- `runs::copy::copy_front` meets its contract.
-- Assumes nothing.
use mathlib.Core.Path.{◌≡◌}
use Prim.Native.Nat.{◌≤◌}
use mathlib.Core.List.{◌++◌}
use lib.ListN.{length, drop}
use Rattle.doubles.specs.Run.{at}
use Rattle.runs.specs.Tabulate.{tabulate}
use Rattle.runs.proofs.copy.copy_front.Given as goal

abbrev pub invariant-loop-i : goal.invariant-loop-i
invariant-loop-i l = (l.i ≤ l.n) × (length l.out ≡ length l.initial.out) × (l.out ≡ tabulate l.i (at l.xs) ++ drop l.i l.initial.out)
