-- What comes of an edit.
-- Assumes nothing.
use Rattle.std.specs.Prelude.{List, Float}
use Rattle.knots.specs.declared.refusal.Refusal.{Refusal}

-- the curve that is formed: knots, points, weights; or the first refusal
pub data Outcome : Type 0 where
  gives : List Float → List Float → List Float → Outcome
  refuses : Refusal → Outcome
