-- `evaluate::curve2::finite2_of` meets its contract.
-- Assumes nothing.
use Rattle.std.proofs.Common.{sym, ◌∙◌}
use Rattle.evaluate.specs.Curve2.{finite2}
use Rattle.evaluate.proofs.curve2.finite2_of.Goals as goal
use Rattle.evaluate.proofs.curve2.finite2_of.Goals.{then-finite_vector, else-finite_vector}

pub returns-then-finite_vector-2 : goal.returns-then-finite_vector-2
unfolding finite2
returns-then-finite_vector-2 c =
    elim c.if-finite_vector.branch [
      | then-finite_vector w ↦ simp
          (sym c.finite_vector.ensures ∙ w.if-finite_vector.true, sym w.finite_vector-then-finite_vector.ensures ∙ (sym w.value-is ∙ c.if-finite_vector-2.true))
          c.finite_vector-then-finite_vector-2.ensures
      | else-finite_vector w ↦ let e = sym w.value-is ∙ c.if-finite_vector-2.true in cc
    ]

pub returns-else-finite_vector-2 : goal.returns-else-finite_vector-2
unfolding finite2
returns-else-finite_vector-2 c =
    elim c.if-finite_vector.branch [
      | then-finite_vector w ↦ simp
          (sym c.finite_vector.ensures ∙ w.if-finite_vector.true, sym w.finite_vector-then-finite_vector.ensures ∙ (sym w.value-is ∙ c.if-finite_vector-2.false))
          c.if-finite_vector-2.false
      | else-finite_vector w ↦ simp (sym c.finite_vector.ensures ∙ w.if-finite_vector.false) c.if-finite_vector-2.false
    ]
