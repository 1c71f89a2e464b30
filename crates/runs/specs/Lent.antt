-- What a call leaves in a lent run.
-- Assumes nothing.
use Rattle.std.specs.Prelude.{ℕ, ◌-◌, cond, List, ◌++◌, length, eqb, Float}
use Rattle.knots.specs.Clear.{zeros}
use Rattle.knots.specs.declared.refusal.Refusal.{Refusal}

-- n numbers: l, and +0.0 after it
unfoldable pub padded : ℕ → List Float → List Float
padded n l = l ++ zeros (n - length l)

-- n numbers: l, and +0.0 after it; after a refusal +0.0 alone
unfoldable pub left_in : Refusal → ℕ → List Float → List Float
left_in r n l = cond (eqb r.number 0) (padded n l) (zeros n)
