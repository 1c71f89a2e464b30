-- A run of decimal figures, the least significant first, and the number that it writes.
-- Assumes nothing.
use Rattle.std.specs.Prelude.{ℕ, ◌+◌, ◌*◌, ◌<◌, List, [], ◌∷◌, get_or}

unfoldable pub number : List ℕ → ℕ
number [] = 0
number (d ∷ ds) = d + 10 * number ds

abbrev pub Figures : List ℕ → Type 0
Figures ds = (i : ℕ) → get_or ds i 0 < 10
