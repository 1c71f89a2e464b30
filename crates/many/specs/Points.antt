-- The answers of `eval_many` and `eval2_many`, by the mode: for each parameter what `eval` and `eval2` answer in that mode, in a row.
-- Assumes nothing.
use Rattle.std.specs.Prelude.{Result, Ok, Err}
use Rattle.evaluate.specs.declared.curve.CurveDerivs.{CurveDerivs}
use Rattle.evaluate.specs.declared.curve2.CurveDerivs2.{CurveDerivs2}
use Rattle.std.specs.Prelude.{ℕ, ◌*◌, Bool, true, false, cond, List, [], ◌∷◌, ◌++◌, length, Float}
use Rattle.doubles.specs.Value.{zero+}
use Rattle.knots.specs.Refusal.{refuse, or_else}
use Rattle.knots.specs.declared.refusal.Reason.TheVariants.{LengthBad}
use Rattle.knots.specs.Curve.{over_long}
use Rattle.knots.specs.declared.refusal.Refusal.{Refusal}
use Rattle.evaluate.specs.Curve.{eval_of}
use Rattle.evaluate.specs.Curve2.{eval2_of}
use Rattle.evaluate.specs.Numbers.{curve_answer_refusal, curve_answer_values, curve_answer2_refusal, curve_answer2_values}
use Rattle.runs.specs.Point.{three_of}
use Rattle.runs.specs.declared.vector.Vector.{Vector}
use Rattle.many.specs.Rows.{RowsMeet, row_of}
use Rattle.many.specs.Start.{table_refusal, rooms_refusal}
use Rattle.many.specs.declared.row.PointRow.{PointRow}

-- how many numbers a row has: the point and one derivative, or two
abbrev pub width : Bool → ℕ
width b = cond b 9 6

-- 30 for too many parameters, the curve's, 31, 30 for lent runs of a and b numbers where a row has w
unfoldable pub points_start : ℕ → List Float → List Float → Bool → List Float → List Float → ℕ → ℕ → ℕ → Refusal
points_start p ks ps g ws ts w a b =
    cond (over_long true ts) (refuse LengthBad)
    (or_else (table_refusal p ks ps g ws) (rooms_refusal a (length ts) b (length ts * w)))

-- c is the mode
module _ (c : Bool) (p : ℕ) (ks ps : List Float) (g : Bool) (ws : List Float) where
  -- the number of a refusal or 0, and the point with its derivatives
  abbrev pub number_at : Bool → Float → List ℕ
  number_at b t = (cond b (curve_answer2_refusal (eval2_of c p ks ps g ws t)) (curve_answer_refusal (eval_of c p ks ps g ws t))).number ∷ []

  abbrev pub numbers_at : Bool → Float → List Float
  numbers_at b t = row_of (width b) (cond b (curve_answer2_values (eval2_of c p ks ps g ws t)) (curve_answer_values (eval_of c p ks ps g ws t)))

  -- the promises
  abbrev pub EachMeets : Bool → List Float → ℕ → ℕ → List ℕ → List Float → Result ℕ Refusal → Type 0
  EachMeets d ts a b = RowsMeet (points_start p ks ps g ws ts (width d) a b) ts (number_at d) (numbers_at d) a b

  abbrev pub PointsMeet : List Float → ℕ → ℕ → List ℕ → List Float → Result ℕ Refusal → Type 0
  PointsMeet = EachMeets false

  abbrev pub Points2Meet : List Float → ℕ → ℕ → List ℕ → List Float → Result ℕ Refusal → Type 0
  Points2Meet = EachMeets true

-- ---- what the parts of the code leave
abbrev pub origin : Vector
origin = record { x = zero+; y = zero+; z = zero+ }

-- what is stored of an answer: no point where it is refused
abbrev pub no_row : Refusal → PointRow
no_row r = record { number = r.number; point = origin; d1 = origin; d2 = origin }

abbrev pub point_row : Result CurveDerivs Refusal → PointRow
point_row (Ok d) = record { number = 0; point = d.point; d1 = d.d1; d2 = origin }
point_row (Err r) = no_row r

abbrev pub point_row2 : Result CurveDerivs2 Refusal → PointRow
point_row2 (Ok d) = record { number = 0; point = d.point; d1 = d.d1; d2 = d.d2 }
point_row2 (Err r) = no_row r

abbrev pub row_at : Bool → ℕ → List Float → List Float → Bool → List Float → Bool → Float → PointRow
row_at c p ks ps g ws b t = cond b (point_row2 (eval2_of c p ks ps g ws t)) (point_row (eval_of c p ks ps g ws t))

abbrev pub numbers_of : Bool → PointRow → List Float
numbers_of b r = three_of r.point ++ (three_of r.d1 ++ cond b (three_of r.d2) [])
