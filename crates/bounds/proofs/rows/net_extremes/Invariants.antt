use mathlib.Core.Path.{◌≡◌}
use Prim.Native.Nat.{◌+◌, ◌*◌}
use Rattle.runs.specs.Weight.{weight_at}
use Rattle.bounds.specs.Surface.{net_extremes}
use Rattle.bounds.proofs.rows.net_extremes.Given as goal

abbrev pub invariant-loop-m : goal.invariant-loop-m
invariant-loop-m l = l.found ≡ net_extremes (λ i j. weight_at l.rational l.weights ((l.row + i) * l.nv + l.col + j)) l.cols l.m
