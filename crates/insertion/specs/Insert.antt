-- One knot inserted into a curve of degree p and n points: knots ks, points ps and, where g is true, weights ws.
-- Assumes nothing.
use Rattle.std.specs.Prelude.{ℕ, ◌+◌, ◌-◌, ◌*◌, Bool, not, cond, ◌&&◌, List, length, leb, ltb, eqb, Float}
use Rattle.std.specs.Float.Ieee.{le}
use Rattle.std.specs.Float.Ieee.Scale.{finite}
use Rattle.doubles.specs.Run.{at}
use Rattle.knots.specs.Below.{all_below}
use Rattle.knots.specs.Refusal.{refuse, accepted, or_else}
use Rattle.knots.specs.declared.refusal.Reason.TheVariants.{KnotOutside, KnotFull, ControlBad, EditBad}
use Rattle.knots.specs.Curve.{formed_refusal}
use Rattle.knots.specs.Span.{span_of}
use Rattle.knots.specs.declared.refusal.Refusal.{Refusal}
use Rattle.runs.specs.Tabulate.{tabulate}
use Rattle.runs.specs.Point.{point_of}
use Rattle.edits.specs.Control.{is_lifted, is_blended, share_of, blend_of}
use Rattle.edits.specs.Counts.{multiplicity_of}
use Rattle.edits.specs.Rows.{lift_all, lower_at, weight_in, given}
use Rattle.edits.specs.declared.control.Control.{Control}

-- place j of the knots with t after place k
unfoldable pub knot_at : ℕ → Float → List Float → ℕ → Float
knot_at k t ks j = cond (leb j k) (at ks j) (cond (eqb j (k + 1)) t (at ks (j - 1)))

unfoldable pub more_knots : ℕ → Float → List Float → List Float
more_knots k t ks = tabulate (length ks + 1) (knot_at k t ks)

-- finite, and strictly inside the domain
unfoldable pub inside : Float → Float → Float → Bool
inside lo hi t = finite t && (not (le t lo) && not (le hi t))

-- 13, 14 of a knot that the curve has s times
unfoldable pub spot_refusal : Float → Float → Float → ℕ → ℕ → Refusal
spot_refusal lo hi t p s = cond (not (inside lo hi t)) (refuse KnotOutside) (cond (ltb p s) (refuse KnotFull) accepted)

-- control i with the knot t more, of knots ks and degree p: k the last place whose knot is at most t, s the multiplicity of t
unfoldable pub blend_at : ℕ → ℕ → ℕ → Float → List Float → (ℕ → Control) → ℕ → Control
blend_at p k s t ks h i =
    cond (leb i (k - p)) (h i)
    (cond (leb i (k - s)) (blend_of (h (i - 1)) (h i) (share_of t (at ks i) (at ks (i + p)))) (h (i - 1)))

-- where t goes: k the last place whose knot is at most t, s its multiplicity
module _ (p n k s : ℕ) (t : Float) (ks ps : List Float) (g : Bool) (ws : List Float) where
  -- the controls, relative to the first point, all weights over the largest; and with t more
  abbrev pub lifted : ℕ → Control
  lifted = lift_all (point_of ps 0) ps g ws

  abbrev pub blended : ℕ → Control
  blended = blend_at p k s t ks lifted

  unfoldable pub more_points : List Float
  more_points = tabulate ((n + 1) * 3) (lower_at (point_of ps 0) blended)

  unfoldable pub more_weights : List Float
  more_weights = tabulate (given g (n + 1)) (weight_in blended)

  -- 19, 20, and 1 to 10 of the curve that is formed
  unfoldable pub form_refusal : Refusal
  form_refusal =
      cond (not (all_below (λ i. is_lifted (lifted i)) n)) (refuse ControlBad)
      (cond (not (all_below (λ i. is_blended (blended i)) (n + 1))) (refuse EditBad)
      (formed_refusal p (n + 1) (more_knots k t ks) more_points g more_weights))

-- the whole
module _ (p n : ℕ) (ks ps : List Float) (g : Bool) (ws : List Float) (t : Float) where
  unfoldable pub inserted_knots : List Float
  inserted_knots = more_knots (span_of p n ks t) t ks

  unfoldable pub inserted_points : List Float
  inserted_points = more_points p n (span_of p n ks t) (multiplicity_of ks t) t ks ps g ws

  unfoldable pub inserted_weights : List Float
  inserted_weights = more_weights p n (span_of p n ks t) (multiplicity_of ks t) t ks ps g ws

  unfoldable pub insert_refusal : Refusal
  insert_refusal =
      or_else (spot_refusal (at ks p) (at ks n) t p (multiplicity_of ks t))
      (form_refusal p n (span_of p n ks t) (multiplicity_of ks t) t ks ps g ws)
