-- `insertion::one::is_inside` meets its contract.
-- Assumes nothing.
use Rattle.std.proofs.Common.{sym, ◌∙◌}
use Rattle.insertion.specs.Insert.{inside}
use Rattle.insertion.proofs.one.is_inside.Goals.{then-is_finite, else-is_finite}
use Rattle.insertion.proofs.one.is_inside.Goals as goal

pub returns-then-not-t-lo : goal.returns-then-not-t-lo
unfolding inside
returns-then-not-t-lo c = elim c.if-is_finite.branch [
  | then-is_finite w ↦ simp (sym c.is_finite.ensures ∙ w.if-is_finite.true, sym w.value-is ∙ c.if-not-t-lo.true)
  | else-is_finite w ↦ let no = sym w.value-is ∙ c.if-not-t-lo.true in cc
]

pub returns-else-not-t-lo : goal.returns-else-not-t-lo
unfolding inside
returns-else-not-t-lo c = elim c.if-is_finite.branch [
  | then-is_finite w ↦ simp (sym c.is_finite.ensures ∙ w.if-is_finite.true, sym w.value-is ∙ c.if-not-t-lo.false) c.if-not-t-lo.false
  | else-is_finite w ↦ simp (sym c.is_finite.ensures ∙ w.if-is_finite.false) c.if-not-t-lo.false
]
