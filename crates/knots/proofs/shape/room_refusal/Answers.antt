use Rattle.std.proofs.Common.{◌≡◌, ℕ, ◌/◌, sym, ap, ◌∙◌}
use Rattle.std.specs.Prelude.{Err}
use borrow.Author.Tests.{eq-eqb, ne_eqb, le-leb, lt-leb, lt-ltb, le-ltb, eqb-true}
use Rattle.knots.specs.Refusal.{refuse, placed, checked, PointNotFinite, WeightBad, KnotsUnordered, KnotRepeated}
use Rattle.knots.specs.Shape.{room_refusal}
use Rattle.knots.proofs.shape.room_refusal.Goals as goal

pub returns-then-have-need : goal.returns-then-have-need
unfolding room_refusal checked
returns-then-have-need c = simp (lt-ltb _ _ c.if-have-need.true) (ap Err c.refuse.ensures)

pub returns : goal.returns
unfolding room_refusal checked
returns c = simp (le-ltb _ _ c.if-have-need.false)
