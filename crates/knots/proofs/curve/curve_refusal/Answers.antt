use Rattle.std.proofs.Common.{◌≡◌, ℕ, ◌/◌, sym, ap, ◌∙◌}
use Rattle.std.specs.Prelude.{Err}
use borrow.Author.Tests.{eq-eqb, ne_eqb, le-leb, lt-leb, lt-ltb, le-ltb, eqb-true}
use Rattle.knots.specs.Refusal.{refuse, placed, checked, PointNotFinite, WeightBad, KnotsUnordered, KnotRepeated}
use Rattle.knots.specs.Curve.{curve_refusal}
use Rattle.knots.proofs.curve.curve_refusal.Goals as goal

pub returns-then-any_long : goal.returns-then-any_long
unfolding curve_refusal checked
returns-then-any_long c = simp (sym c.any_long.ensures ∙ c.if-any_long.true) (ap Err c.refuse.ensures)

pub returns-then-points-ne0 : goal.returns-then-points-ne0
unfolding curve_refusal checked
returns-then-points-ne0 c = simp (sym c.any_long.ensures ∙ c.if-any_long.false, ne_eqb _ _ c.if-points-ne0.true) (ap Err c.refuse-then-points-ne0.ensures)

pub returns : goal.returns
unfolding curve_refusal
returns c = simp (sym c.any_long.ensures ∙ c.if-any_long.false, eq-eqb _ _ c.if-points-ne0.false) c.formed_refusal.ensures
