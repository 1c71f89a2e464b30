-- Doubles into a run. The invariant: the first j are stored, and the others are as they were.
-- Assumes nothing.
use mathlib.Core.Path.{◌≡◌}
use lib.ListN.{drop}
use lib.Seq.{sets}
use Rattle.record.specs.Reading.{patterns, numbers}
use Rattle.record.proofs.field.fill.Given as goal

abbrev pub invariant-loop-j : goal.invariant-loop-j
invariant-loop-j l = l.out ≡ sets l.initial.out 0 (numbers (patterns l.j (drop l.i l.s)))
