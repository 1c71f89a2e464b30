use Rattle.std.proofs.Common.{◌≡◌, ℕ, ◌/◌, sym, ap, ◌∙◌}
use Rattle.std.specs.Prelude.{Err}
use borrow.Author.Tests.{eq-eqb, ne_eqb, le-leb, lt-leb, lt-ltb, le-ltb, eqb-true}
use Rattle.knots.specs.Refusal.{refuse, placed, checked, PointNotFinite, WeightBad, KnotsUnordered, KnotRepeated}
use Rattle.knots.specs.Surface.{net_refusal}
use Rattle.knots.proofs.surface.net_refusal.Goals as goal

pub returns-then-over_long : goal.returns-then-over_long
unfolding net_refusal checked
returns-then-over_long c = simp (sym c.over_long.ensures ∙ c.if-over_long.true) (ap Err c.refuse.ensures)

pub returns-then-any_long : goal.returns-then-any_long
unfolding net_refusal checked
returns-then-any_long c = simp (sym c.over_long.ensures ∙ c.if-over_long.false, sym c.any_long.ensures ∙ c.if-any_long.true) (ap Err c.refuse-then-any_long.ensures)

pub returns-then-surface-ne0 : goal.returns-then-surface-ne0
unfolding net_refusal checked
returns-then-surface-ne0 c = simp (sym c.over_long.ensures ∙ c.if-over_long.false, sym c.any_long.ensures ∙ c.if-any_long.false, ne_eqb _ _ c.if-surface-ne0.true) (ap Err c.refuse-then-surface-ne0.ensures)

pub returns-then-not-is_product : goal.returns-then-not-is_product
unfolding net_refusal checked
returns-then-not-is_product c = simp (sym c.over_long.ensures ∙ c.if-over_long.false, sym c.any_long.ensures ∙ c.if-any_long.false, eq-eqb _ _ c.if-surface-ne0.false, sym c.is_product.ensures ∙ c.if-not-is_product.true) (ap Err c.refuse-then-not-is_product.ensures)

pub returns : goal.returns
unfolding net_refusal checked
returns c = simp (sym c.over_long.ensures ∙ c.if-over_long.false, sym c.any_long.ensures ∙ c.if-any_long.false, eq-eqb _ _ c.if-surface-ne0.false, sym c.is_product.ensures ∙ c.if-not-is_product.false)
