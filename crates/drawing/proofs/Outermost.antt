-- The least and the greatest of some numbers, as one: `up` says which.
-- Assumes nothing.
use Prim.Native.Nat.{ℕ, ◌+◌}
use mathlib.Core.Bool.{Bool, true, false, cond}
use mathlib.Core.Path.{◌≡◌, refl, sym}
use lib.Ieee.{Float, inf}
use Rattle.doubles.specs.Neighbour.{fmin, fmax}
use Rattle.bounds.specs.Start.{min_from, max_from}
use Rattle.bounds.proofs.Steps.{min-more, max-more}

abbrev pub extreme_from : Bool → (ℕ → Float) → ℕ → Float
extreme_from up f n = cond up (max_from (inf true) f n) (min_from (inf false) f n)

pub extreme-none : (up : Bool) (f : ℕ → Float) → inf up ≡ extreme_from up f 0
unfolding min_from max_from
extreme-none true f = refl
extreme-none false f = refl

pub extreme-more : (up : Bool) (f : ℕ → Float) (n : ℕ) → cond up (fmax (extreme_from up f n) (f n)) (fmin (extreme_from up f n) (f n)) ≡ extreme_from up f (n + 1)
extreme-more true f n = sym (max-more (inf true) f n)
extreme-more false f n = sym (min-more (inf false) f n)
