-- `insert_knots`: a curve of degree p, knots ks, points ps and, where g is true, weights ws; ts are the knots to insert.
-- Assumes nothing.
use Rattle.std.specs.Prelude.{ℕ, ◌+◌, Bool, true, cond, List, length, eqb, Float, Result}
use Rattle.knots.specs.Refusal.{refuse, or_else}
use Rattle.knots.specs.declared.refusal.Reason.TheVariants.{LengthBad}
use Rattle.knots.specs.Curve.{over_long, count_of}
use Rattle.knots.specs.declared.refusal.Refusal.{Refusal}
use Rattle.edits.specs.Outcome.{Outcome, refuses}
use Rattle.edits.specs.Start.{edit_start, out_room, scratch_room}
use Rattle.edits.specs.Whole.{given_of, EditMeets}
use Rattle.edits.specs.declared.answer.FormedCurve.{FormedCurve}
use Rattle.insertion.specs.Fold.{insert_all}

-- the refusals before anything is formed: 30 for the list's length, the curve's, 17, 30 for the lent runs, in this order
unfoldable pub insert_start : ℕ → List Float → List Float → Bool → List Float → List Float → ℕ → ℕ → ℕ → ℕ → Refusal
insert_start p ks ps g ws ts a b c d =
    cond (over_long true ts) (refuse LengthBad)
    (or_else (edit_start p ks ps g ws)
    (or_else (out_room p (count_of ps + length ts) g a b c) (scratch_room p (count_of ps + length ts) d)))

module _ (p : ℕ) (ks ps : List Float) (g : Bool) (ws ts : List Float) (a b c d : ℕ) where
  -- a refusal before anything is formed, else the fold
  unfoldable pub insert_outcome : Outcome
  insert_outcome =
      cond (eqb (insert_start p ks ps g ws ts a b c d).number 0)
      (insert_all p g (count_of ps) ks ps (given_of g ws) ts)
      (refuses (insert_start p ks ps g ws ts a b c d))

  abbrev pub InsertMeets : List Float → List Float → List Float → List Float → Result FormedCurve Refusal → Type 0
  InsertMeets = EditMeets p (count_of ps + length ts) insert_outcome a b c d
