use Rattle.jets.proofs.Fill.{InFill}
use Rattle.std.specs.Prelude.{Ok}
use Rattle.bounds.specs.Start.{start_at}
use Rattle.bounds.proofs.start.row_by.Given as goal

abbrev pub invariant-loop-m : goal.invariant-loop-m
invariant-loop-m l = InFill (λ i. Ok (start_at l.points l.weights l.rational l.base l.o l.r i)) l.along.degree l.net l.m
