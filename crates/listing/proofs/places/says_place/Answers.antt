-- `listing::places::says_place` meets its contract.
-- Assumes nothing.
use mathlib.Core.Bool.{Bool, false, ◌||◌}
use mathlib.Core.Path.{◌≡◌, refl}
use borrow.Author.Tests.{eq-eqb, ne_eqb}
use Rattle.listing.specs.Text.{says_place}
use Rattle.listing.proofs.places.says_place.Goals as goal

last : (w x y z : Bool) → w ≡ false → x ≡ false → y ≡ false → z ≡ (w || (x || (y || z)))
last w x y z W X Y = rw (W, X, Y) refl

pub returns-then-number-eq4 : goal.returns-then-number-eq4
unfolding says_place
returns-then-number-eq4 c = simp (eq-eqb _ _ c.if-number-eq4.true)

pub returns-then-number-eq7 : goal.returns-then-number-eq7
unfolding says_place
returns-then-number-eq7 c = simp (ne_eqb _ _ c.if-number-eq4.false, eq-eqb _ _ c.if-number-eq7.true)

pub returns-then-number-eq8 : goal.returns-then-number-eq8
unfolding says_place
returns-then-number-eq8 c = simp (ne_eqb _ _ c.if-number-eq4.false, ne_eqb _ _ c.if-number-eq7.false, eq-eqb _ _ c.if-number-eq8.true)

pub returns : goal.returns
unfolding says_place
returns c = last _ _ _ _ (ne_eqb _ _ c.if-number-eq4.false) (ne_eqb _ _ c.if-number-eq7.false) (ne_eqb _ _ c.if-number-eq8.false)
