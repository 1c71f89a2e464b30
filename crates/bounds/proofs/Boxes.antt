-- From the boxes of a span to those of the whole answer. Assumes nothing.
use Prim.Native.Nat.{ℕ}
use mathlib.Core.Path.{◌≡◌, refl}
use mathlib.Core.Bool.{Bool, true, false, cond}
use mathlib.Core.List.{List}
use lib.Dec.{eqb}
use lib.Ieee.{Float}
use borrow.Author.Tests.{eqb-true}
use Rattle.exact.specs.Rational.{ℚ}
use Rattle.runs.specs.Fraction.{coordinate_value}
use Rattle.jets.specs.Three.{Three}
use Rattle.bounds.specs.Holds.{Boxed}
use Rattle.bounds.specs.Curve.{unless}
use Rattle.jets.proofs.CartesianIn.{Boxes}
use Rattle.bounds.specs.Answer.{bounds_of, bounded_of}
use Rattle.knots.specs.declared.refusal.Refusal.{Refusal}
use Rattle.std.specs.Prelude.{Result, Ok, Err}
use Rattle.jets.specs.declared.cartesian.Bounds.{Bounds}
use Rattle.bounds.specs.declared.answer.NurbsBounds.{NurbsBounds}

-- the coordinates of point i
abbrev pub X : List Float → ℕ → ℚ
X ps = coordinate_value ps 0

abbrev pub Y : List Float → ℕ → ℚ
Y ps = coordinate_value ps 1

abbrev pub Z : List Float → ℕ → ℚ
Z ps = coordinate_value ps 2

pub boxed : (A : Result Bounds Refusal) (e : ℕ → Three) → Boxes A (e 0) (e 1) (e 2) → Boxed (bounded_of A) e
unfolding bounds_of
boxed (Ok b) e h = record {
  point = record { x = h.x.value; y = h.y.value; z = h.z.value };
  du = record { x = h.x.du; y = h.y.du; z = h.z.du };
  dv = record { x = h.x.dv; y = h.y.dv; z = h.z.dv };
}
boxed (Err n) e h = tt

pub unless-in : (f : Refusal) (A : Result NurbsBounds Refusal) (e : ℕ → Three) → (f.number ≡ 0 → Boxed A e) → Boxed (unless f A) e
unless-in f A e h = go (eqb f.number 0) (eqb-true f.number 0)
  where
    go : (b : Bool) → (b ≡ true → f.number ≡ 0) → Boxed (cond b A (Err f)) e
    go true z = h (z refl)
    go false z = tt
