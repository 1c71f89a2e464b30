use lib.ListN.{length}
use Rattle.ends.specs.Flat.{flat_of}
use Rattle.bounds.specs.Start.{start_at}
use Rattle.bounds.proofs.Flats.{InFlat}
use Rattle.bounds.proofs.flat.fill_flat.Given as goal

abbrev pub invariant-loop-m : goal.invariant-loop-m
invariant-loop-m l = InFlat (λ i. flat_of (start_at l.points l.weights l.rational l.base l.o l.r i)) l.degree (length l.initial.net) l.net l.m
