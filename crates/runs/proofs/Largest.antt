-- The largest of many, one after the other.
-- Assumes nothing.
use Prim.Native.Nat.{ℕ, ◌+◌}
use mathlib.Core.Path.{◌≡◌, refl, ◌∙◌, ap}
use native.Mathlib.Numerals.{add-one}
use lib.Ieee.{Float}
use Rattle.runs.specs.Larger.{larger, largest_from}

pub largest-none : (m : Float) (f : ℕ → Float) → m ≡ largest_from m f 0
unfolding largest_from
largest-none m f = refl

pub largest-more : (m : Float) (f : ℕ → Float) (n : ℕ) (a r : Float) → a ≡ largest_from m f n → r ≡ larger a (f n) → r ≡ largest_from m f (n + 1)
unfolding largest_from
largest-more m f n a r e h = rw add-one (h ∙ ap (λ (y : Float). larger y (f n)) e)
