-- `knots::refusal::class_of` meets its contract: the table is the definition's values, which antt computes, so an entry is the class of its place.
-- Assumes nothing.
use native.Mathlib.Omega.{arith}
use Rattle.knots.specs.Refusal.{class_of}
use Rattle.knots.proofs.Classes.{listed, entry, above}
use Rattle.knots.proofs.refusal.class_of.Goals as goal

pub returns-then-number-gt54 : goal.returns-then-number-gt54
returns-then-number-gt54 c = above _ c.if-number-gt54.true

pub returns : goal.returns
unfolding listed class_of
returns c = entry class_of 55 c.args.number (omega arith)
