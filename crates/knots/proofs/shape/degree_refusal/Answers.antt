use Rattle.std.proofs.Common.{◌≡◌, ℕ, ◌/◌, sym, ap, ◌∙◌}
use Rattle.std.specs.Prelude.{Err}
use borrow.Author.Tests.{eq-eqb, ne_eqb, le-leb, lt-leb, lt-ltb, le-ltb, eqb-true}
use Rattle.knots.specs.Refusal.{refuse, placed, checked, PointNotFinite, WeightBad, KnotsUnordered, KnotRepeated}
use Rattle.knots.specs.Shape.{degree_refusal}
use Rattle.knots.proofs.shape.degree_refusal.Goals as goal

pub returns-then-degree-gt64 : goal.returns-then-degree-gt64
unfolding degree_refusal checked
returns-then-degree-gt64 c = simp (lt-ltb _ _ c.if-degree-gt64.true) (ap Err c.refuse.ensures)

pub returns : goal.returns
unfolding degree_refusal checked
returns c = simp (le-ltb _ _ c.if-degree-gt64.false)
