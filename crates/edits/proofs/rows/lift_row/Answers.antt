use mathlib.Core.Path.{◌∙◌, ap}
use Rattle.edits.specs.Control.{lift_of}
use lib.Ieee.{binary64, div, of_bits}
use Rattle.runs.specs.declared.vector.Vector.{Vector}
use Rattle.doubles.specs.Value.{one+}
use Rattle.edits.proofs.rows.lift_row.Goals as goal

pub returns-then-rational : goal.returns-then-rational
returns-then-rational c = let a = c.args in
    simp c.if-rational.true (c.lift_of.ensures ∙ ap (λ (v : Vector). lift_of a.o v (div binary64 a.q.w a.scale)) c.vector_of.ensures)

pub returns : goal.returns
unfolding of_bits
returns c = simp c.if-rational.false (c.lift_of-2.ensures ∙ ap (λ (v : Vector). lift_of c.args.o v one+) c.vector_of-2.ensures)
