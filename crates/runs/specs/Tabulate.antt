-- A run by its numbers.
-- Assumes nothing.
use Rattle.std.specs.Prelude.{ℕ, zero, suc, List, [], ◌∷◌, Float}

-- the run of f 0, f 1, .., of n numbers
abbrev pub tabulate : ℕ → (ℕ → Float) → List Float
tabulate zero f = []
tabulate (suc n) f = f zero ∷ tabulate n (λ k. f (suc k))
