-- What `elevate_degree` answers and leaves in the lent runs: a curve of degree p, knots ks, points ps and, where g is true, weights ws, raised to degree e.
-- Assumes nothing.
use Rattle.std.specs.Prelude.{ℕ, Bool, not, cond, ◌&&◌, List, eqb, ltb, Float, Result}
use Rattle.knots.specs.Refusal.{refuse, or_else}
use Rattle.knots.specs.declared.refusal.Reason.TheVariants.{DegreeLowered, ElevationHigh}
use Rattle.knots.specs.Curve.{count_of}
use Rattle.knots.specs.declared.refusal.Refusal.{Refusal}
use Rattle.edits.specs.Outcome.{Outcome, gives, refuses}
use Rattle.edits.specs.Start.{edit_start, out_room, scratch_room}
use Rattle.edits.specs.Whole.{given_of, EditMeets}
use Rattle.edits.specs.declared.answer.FormedCurve.{FormedCurve}
use Rattle.elevation.specs.Breaks.{breaks_of}
use Rattle.elevation.specs.Elevate.{extracted_count, raised_count, raise_all}

-- the points of the answer, of a curve of n points
unfoldable pub elevated_count : ℕ → ℕ → ℕ → List Float → ℕ
elevated_count p e n ks = cond (eqb e p) n (raised_count p e ks (breaks_of p n ks))

-- 16, 18, 30 for the lent runs
unfoldable pub raise_start : ℕ → ℕ → ℕ → List Float → Bool → ℕ → ℕ → ℕ → ℕ → Refusal
raise_start p e n ks g a b c d =
    cond (ltb e p) (refuse DegreeLowered)
    (cond (not (eqb e p) && ltb 64 e) (refuse ElevationHigh)
    (or_else (out_room e (elevated_count p e n ks) g a b c) (scratch_room p (extracted_count p (breaks_of p n ks)) d)))

-- a copy, or the raised curve
unfoldable pub elevated : ℕ → List Float → List Float → Bool → List Float → ℕ → Outcome
elevated p ks ps g ws e =
    cond (eqb e p) (gives ks ps (given_of g ws)) (raise_all p e (count_of ps) ks ps g (given_of g ws) (breaks_of p (count_of ps) ks))

module _ (p : ℕ) (ks ps : List Float) (g : Bool) (ws : List Float) (e : ℕ) (a b c d : ℕ) where
  -- the curve's refusal, 17, 16, 18, 30
  unfoldable pub elevate_start : Refusal
  elevate_start = or_else (edit_start p ks ps g ws) (raise_start p e (count_of ps) ks g a b c d)

  -- a refusal before anything is formed, else the curve
  unfoldable pub elevate_outcome : Outcome
  elevate_outcome = cond (eqb elevate_start.number 0) (elevated p ks ps g ws e) (refuses elevate_start)

  abbrev pub ElevateMeets : List Float → List Float → List Float → List Float → Result FormedCurve Refusal → Type 0
  ElevateMeets = EditMeets e (elevated_count p e (count_of ps) ks) elevate_outcome a b c d
