-- A clamped curve of degree p and n points is raised to a higher degree e: each break is made full, so that the controls are those of Bezier segments; each segment is raised;
-- and the segments are joined again, at a break that was not full by the control that both have.
-- Assumes nothing.
use Rattle.std.specs.Prelude.{ℕ, zero, suc, ◌+◌, ◌-◌, ◌*◌, Bool, true, not, cond, ◌&&◌, List, [], ◌∷◌, ◌++◌, length, replicate, eqb, Float}
use Rattle.doubles.specs.Run.{at}
use Rattle.knots.specs.Below.{all_below}
use Rattle.knots.specs.Refusal.{refuse}
use Rattle.knots.specs.declared.refusal.Reason.TheVariants.{ControlBad, EditBad}
use Rattle.knots.specs.Curve.{formed_refusal}
use Rattle.knots.specs.declared.refusal.Refusal.{Refusal}
use Rattle.runs.specs.Point.{point_of, three_of}
use Rattle.runs.specs.declared.vector.Vector.{Vector}
use Rattle.edits.specs.Control.{is_lifted, is_blended, lower_of}
use Rattle.edits.specs.Counts.{bit}
use Rattle.edits.specs.Rows.{lift_all}
use Rattle.insertion.specs.Fold.{insert_all}
use Rattle.edits.specs.Outcome.{Outcome, gives, refuses}
use Rattle.edits.specs.Whole.{given_of}
use Rattle.edits.specs.declared.control.Control.{Control}
use Rattle.elevation.specs.Breaks.{is_full, full_count, missing_all}
use Rattle.elevation.specs.Raise.{raise_times}

-- ---- how many points: of the curve whose breaks bs are all full, and of the raised one, f of them full before
unfoldable pub extracted_count : ℕ → List Float → ℕ
extracted_count p bs = (p + 1) * (length bs + 1)

unfoldable pub raised_count : ℕ → ℕ → List Float → List Float → ℕ
raised_count p e ks bs = (e + 1) * (length bs + 1) - length bs + full_count p ks bs

-- ---- knots: e + 1 at each end, and e at a break, one more where it is full
unfoldable pub break_knots : ℕ → ℕ → List Float → List Float → List Float
break_knots p e ks [] = []
break_knots p e ks (t ∷ ts) = replicate (e + bit (is_full p ks t)) t ++ break_knots p e ks ts

unfoldable pub raised_knots : ℕ → ℕ → ℕ → List Float → List Float → List Float
raised_knots p e n ks bs = replicate (e + 1) (at ks p) ++ (break_knots p e ks bs ++ replicate (e + 1) (at ks n))

-- ---- controls: h i, h (i + 1), .., of m
unfoldable pub controls_of : (ℕ → Control) → ℕ → ℕ → List Control
controls_of h i zero = []
controls_of h i (suc m) = h i ∷ controls_of h (i + 1) m

-- segment j of controls h, raised
unfoldable pub segment_of : ℕ → ℕ → (ℕ → Control) → ℕ → ℕ → Control
segment_of p e h j = raise_times p (e - p) (λ i. h (j * (p + 1) + i))

-- what it adds after a break: all controls where the break is full, else all but the first, which the segment before it has
unfoldable pub added_by : ℕ → ℕ → (ℕ → Control) → ℕ → Bool → List Control
added_by p e h j full = controls_of (segment_of p e h j) (bit (not full)) (e + bit full)

-- the segments after the breaks of a list, from segment j on
unfoldable pub kept_from : ℕ → ℕ → List Float → (ℕ → Control) → ℕ → List Float → List Control
kept_from p e ks h j [] = []
kept_from p e ks h j (t ∷ ts) = added_by p e h j (is_full p ks t) ++ kept_from p e ks h (j + 1) ts

unfoldable pub kept_all : ℕ → ℕ → List Float → (ℕ → Control) → List Float → List Control
kept_all p e ks h bs = added_by p e h 0 true ++ kept_from p e ks h 1 bs

unfoldable pub all_blended : List Control → Bool
all_blended [] = true
all_blended (q ∷ qs) = is_blended q && all_blended qs

-- the points of controls that are relative to o, and their weights
unfoldable pub points_of : Vector → List Control → List Float
points_of o [] = []
points_of o (q ∷ qs) = three_of (lower_of o q) ++ points_of o qs

unfoldable pub weights_of : List Control → List Float
weights_of [] = []
weights_of (q ∷ qs) = q.w ∷ weights_of qs

-- ---- the raised curve, of the points and weights in which each break is full
module _ (p e n : ℕ) (ks bs : List Float) (g : Bool) (ps ws : List Float) where
  abbrev pub extracted : ℕ → Control
  extracted = lift_all (point_of ps 0) ps g ws

  unfoldable pub raised_controls : List Control
  raised_controls = kept_all p e ks extracted bs

  unfoldable pub raised_points : List Float
  raised_points = points_of (point_of ps 0) raised_controls

  unfoldable pub raised_weights : List Float
  raised_weights = given_of g (weights_of raised_controls)

  -- 19, 20, and 1 to 10 of the curve that is formed
  unfoldable pub raised_refusal : Refusal
  raised_refusal =
      cond (not (all_below (λ i. is_lifted (extracted i)) (extracted_count p bs))) (refuse ControlBad)
      (cond (not (all_blended raised_controls)) (refuse EditBad)
      (formed_refusal e (raised_count p e ks bs) (raised_knots p e n ks bs) raised_points g raised_weights))

  unfoldable pub raised_outcome : Outcome
  raised_outcome = cond (eqb raised_refusal.number 0) (gives (raised_knots p e n ks bs) raised_points raised_weights) (refuses raised_refusal)

-- what is made of the extraction's outcome
abbrev pub after_extraction : (List Float → List Float → Outcome) → Outcome → Outcome
after_extraction f (gives ks ps ws) = f ps ws
after_extraction f (refuses r) = refuses r

-- the whole, of breaks bs
unfoldable pub raise_all : ℕ → ℕ → ℕ → List Float → List Float → Bool → List Float → List Float → Outcome
raise_all p e n ks ps g ws bs = after_extraction (raised_outcome p e n ks bs g) (insert_all p g n ks ps ws (missing_all p ks bs))
