-- A curve cut to the part from lo to hi: each end is inserted until it stands degree + 1 times, and what lies between is taken.
-- A curve has degree p, knots ks, points ps and, where g is true, weights ws.
-- Assumes nothing.
use Rattle.std.specs.Prelude.{ℕ, ◌+◌, ◌-◌, ◌*◌, Bool, not, cond, ◌&&◌, List, ◌++◌, take, drop, replicate, eqb, Float, Result}
use Rattle.std.specs.Float.Ieee.{lt, le}
use Rattle.std.specs.Float.Ieee.Scale.{finite}
use Rattle.doubles.specs.Run.{at}
use Rattle.knots.specs.Refusal.{refuse, or_else}
use Rattle.knots.specs.declared.refusal.Reason.TheVariants.{TrimBad}
use Rattle.knots.specs.Curve.{count_of, formed_refusal}
use Rattle.knots.specs.declared.refusal.Refusal.{Refusal}
use Rattle.edits.specs.Counts.{missing_of, below_of}
use Rattle.edits.specs.Rows.{given}
use Rattle.insertion.specs.Fold.{insert_all}
use Rattle.edits.specs.Outcome.{Outcome, gives, refuses}
use Rattle.edits.specs.Start.{edit_start, out_room, scratch_room}
use Rattle.edits.specs.Whole.{given_of, EditMeets}
use Rattle.edits.specs.declared.answer.FormedCurve.{FormedCurve}

-- 15 is given where this fails: finite ends, lo below hi, inside the domain from a to b
unfoldable pub in_range : Float → Float → Float → Float → Bool
in_range a b lo hi = finite lo && (finite hi && (not (le hi lo) && (not (lt lo a) && not (lt b hi))))

-- what is inserted, and how many points the cut has
unfoldable pub ends_of : ℕ → List Float → Float → Float → List Float
ends_of p ks lo hi = replicate (missing_of p ks lo) lo ++ replicate (missing_of p ks hi) hi

unfoldable pub kept_of : ℕ → List Float → Float → Float → ℕ
kept_of p ks lo hi = below_of ks hi + missing_of p ks lo - below_of ks lo

-- 15, 30
unfoldable pub range_refusal : ℕ → List Float → ℕ → Bool → Float → Float → ℕ → ℕ → ℕ → ℕ → Refusal
range_refusal p ks n g lo hi a b c d =
    cond (not (in_range (at ks p) (at ks n) lo hi)) (refuse TrimBad)
    (or_else (out_room p (kept_of p ks lo hi) g a b c) (scratch_room p (n + (missing_of p ks lo + missing_of p ks hi)) d))

-- m points from place f on, checked by 1 to 10 again
module _ (p : ℕ) (g : Bool) (f m : ℕ) (ks ps ws : List Float) where
  unfoldable pub cut_refusal : Refusal
  cut_refusal = formed_refusal p m (take (m + p + 1) (drop f ks)) (take (m * 3) (drop (f * 3) ps)) g (take (given g m) (drop f ws))

  unfoldable pub cut_curve : Outcome
  cut_curve = cond (eqb cut_refusal.number 0) (gives (take (m + p + 1) (drop f ks)) (take (m * 3) (drop (f * 3) ps)) (take (given g m) (drop f ws))) (refuses cut_refusal)

abbrev pub cut_of : ℕ → Bool → ℕ → ℕ → Outcome → Outcome
cut_of p g f m (gives ks ps ws) = cut_curve p g f m ks ps ws
cut_of p g f m (refuses r) = refuses r

-- the whole, with outputs of a, b and c numbers and scratch of d
module _ (p : ℕ) (ks ps : List Float) (g : Bool) (ws : List Float) (lo hi : Float) (a b c d : ℕ) where
  unfoldable pub trim_start : Refusal
  trim_start = or_else (edit_start p ks ps g ws) (range_refusal p ks (count_of ps) g lo hi a b c d)

  unfoldable pub trim_outcome : Outcome
  trim_outcome =
      cond (eqb trim_start.number 0)
      (cut_of p g (below_of ks lo) (kept_of p ks lo hi) (insert_all p g (count_of ps) ks ps (given_of g ws) (ends_of p ks lo hi)))
      (refuses trim_start)

  abbrev pub TrimMeets : List Float → List Float → List Float → List Float → Result FormedCurve Refusal → Type 0
  TrimMeets = EditMeets p (kept_of p ks lo hi) trim_outcome a b c d
