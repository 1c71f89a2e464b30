-- `made::reverse::run_back` meets its contract.
-- Assumes nothing.
use mathlib.Core.Path.{◌≡◌}
use mathlib.Core.List.{◌++◌}
use lib.ListN.{drop}
use Rattle.runs.specs.Tabulate.{tabulate}
use Rattle.made.specs.Reverse.{back_at}
use Rattle.made.proofs.reverse.run_back.Given as goal

abbrev pub invariant-loop-i : goal.invariant-loop-i
invariant-loop-i l = l.back ≡ tabulate l.i (back_at l.knot l.points l.lo l.hi l.n l.xs) ++ drop l.i l.initial.back
