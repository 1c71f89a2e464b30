-- A list of knots is inserted one by one, each into the curve that the one before it formed.
-- Assumes nothing.
use Rattle.std.specs.Prelude.{ℕ, ◌+◌, Bool, cond, List, [], ◌∷◌, eqb, Float}
use Rattle.edits.specs.Outcome.{Outcome, gives, refuses}
use Rattle.insertion.specs.Insert.{inserted_knots, inserted_points, inserted_weights, insert_refusal}

-- of a curve of degree p and n points, with weights where g is true
unfoldable pub insert_all : ℕ → Bool → ℕ → List Float → List Float → List Float → List Float → Outcome
insert_all p g n ks ps ws [] = gives ks ps ws
insert_all p g n ks ps ws (t ∷ ts) =
    cond (eqb (insert_refusal p n ks ps g ws t).number 0)
    (insert_all p g (n + 1) (inserted_knots p n ks ps g ws t) (inserted_points p n ks ps g ws t) (inserted_weights p n ks ps g ws t) ts)
    (refuses (insert_refusal p n ks ps g ws t))
