-- A field of doubles, stored. The invariant: behind the head stand the bytes of the first j doubles.
-- Assumes nothing.
use mathlib.Core.Path.{◌≡◌}
use lib.ListN.{take}
use lib.Seq.{sets}
use Rattle.record.specs.Format.{doubles}
use Rattle.record.specs.Writing.{bits}
use Rattle.record.proofs.field.put_run.Given as goal

abbrev pub invariant-loop-j : goal.invariant-loop-j
invariant-loop-j l = l.out ≡ sets l.initial.out l.start (doubles (bits (take l.j l.xs)))
