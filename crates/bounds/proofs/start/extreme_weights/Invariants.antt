use mathlib.Core.Path.{◌≡◌}
use Prim.Native.Nat.{◌+◌}
use Rattle.bounds.specs.Start.{min_from, max_from}
use Rattle.runs.specs.Weight.{weight_at}
use Rattle.bounds.proofs.start.extreme_weights.Given as goal

abbrev pub invariant-loop-m : goal.invariant-loop-m
invariant-loop-m l = (l.least ≡ min_from l.initial.least (λ k. weight_at l.rational l.weights (l.first + k)) l.m) × (l.most ≡ max_from l.initial.most (λ k. weight_at l.rational l.weights (l.first + k)) l.m)
