-- `knots::numbers::is_fine` meets its contract.
-- Assumes nothing.
use mathlib.Core.Bool.{Bool, true, false, ◌&&◌}
use mathlib.Core.Path.{◌≡◌, refl, sym, ◌∙◌}
use lib.Ieee.{Float}
use lib.Ieee.Scale.{finite}
use Rattle.knots.specs.Curve.{is_weight}
use Rattle.knots.specs.Fine.{above as above_of, fine as fine_of}
use Rattle.knots.proofs.numbers.is_fine.Goals as goal

both : (weight : Bool) (x : Float) (b : Bool) → finite x ≡ b → (b && above_of weight x) ≡ fine_of weight x
unfolding is_weight
both true x b e = rw e refl
both false x true e = sym e
both false x false e = sym e

pub returns-then-is_finite : goal.returns-then-is_finite
returns-then-is_finite c = c.is_above.ensures ∙ both c.args.weight c.args.x true (sym c.is_finite.ensures ∙ c.if-is_finite.true)

pub returns-else-is_finite : goal.returns-else-is_finite
returns-else-is_finite c = both c.args.weight c.args.x false (sym c.is_finite.ensures ∙ c.if-is_finite.false)
