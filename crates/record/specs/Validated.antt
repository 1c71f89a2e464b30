-- A record read and validated: what `read_table` answers of the curve that a record holds, and what it leaves in the lent runs.
-- Assumes nothing.
use Rattle.std.specs.Prelude.{Option, Some, None, Result, Ok, Err}
use Rattle.std.specs.Prelude.{ℕ, ◌≤◌, Bool, cond, ◌≡◌, List, [], ◌∷◌, length, take, eqb, Float}
use Rattle.knots.specs.declared.refusal.Refusal.{Refusal}
use Rattle.knots.specs.Refusal.{refuse}
use Rattle.knots.specs.declared.refusal.Reason.TheVariants.{LengthBad, RecordMalformed}
use Rattle.knots.specs.Curve.{curve_refusal, ValidCurve}
use Rattle.record.specs.Format.{Table, Means, given, rational_by}
use Rattle.record.specs.Reading.{table_of, layout, room_for, handed, numbers, Lent}
use Rattle.record.specs.Numbers.{table_answer_refusal, table_answer_values}
use Rattle.record.specs.declared.read.Layout.{Layout}
use Rattle.record.specs.declared.table.Curve.{Curve}

-- the curve's own refusal: 30, 32, 1 to 10 of the numbers that a table holds
unfoldable pub refusal_in : Table → Refusal
refusal_in t = curve_refusal t.degree (numbers t.knots) (numbers t.points) (rational_by t.weights) (numbers (given t.weights))

-- a curve, as `read_table` answers it
abbrev pub curve_as : Layout → Bool → Result Curve Refusal
curve_as l g = Ok (record { layout = l; rational = g })

-- the curve, where nothing is refused
abbrev pub curve_in : Table → Result Curve Refusal
curve_in t = cond (eqb (refusal_in t).number 0) (curve_as (layout t) (rational_by t.weights)) (Err (refusal_in t))

-- the answer of `read_table`: 33, then 30 for a run with too little room, then the curve's own refusal, else the curve
abbrev pub answer_of : Option Table → ℕ → ℕ → ℕ → Result Curve Refusal
answer_of None k p w = Err (refuse RecordMalformed)
answer_of (Some t) k p w = cond (room_for (layout t) k p w) (curve_in t) (Err (refuse LengthBad))

-- its number: 33, then 30 for a run with too little room, then the curve's own; 0 where there is none
abbrev pub number_of : Option Table → ℕ → ℕ → ℕ → ℕ
number_of None k p w = (refuse RecordMalformed).number
number_of (Some t) k p w = cond (room_for (layout t) k p w) (refusal_in t).number (refuse LengthBad).number

-- its values: the degree and the lengths of the three runs, none after a refusal
abbrev pub values_of : Option Table → ℕ → ℕ → ℕ → List ℕ
values_of None k p w = []
values_of (Some t) k p w =
    cond (room_for (layout t) k p w) (cond (eqb (refusal_in t).number 0) (t.degree ∷ length t.knots ∷ length t.points ∷ length (given t.weights) ∷ []) []) []

-- the same answer without the validation
abbrev pub unvalidated : Result Curve Refusal → Result Layout Refusal
unvalidated (Ok c) = Ok c.layout
unvalidated (Err x) = Err x

-- the fronts of three runs are a valid curve of this layout
pub record Front (l : Layout) (rational : Bool) (k p w : List Float) : Type 0 where
  pub knots : l.knots ≤ length k
  pub points : l.points ≤ length p
  pub weights : l.weights ≤ length w
  pub valid : ValidCurve l.degree (take l.knots k) (take l.points p) rational (take l.weights w)

abbrev pub FrontOf : Result Curve Refusal → List Float → List Float → List Float → Type 0
FrontOf (Ok c) k p w = Front c.layout c.rational k p w
FrontOf (Err x) k p w = Unit {0}

-- the promise of `read_table`: k, p, w are the lent runs before, k', p', w' after. `number`, `values` and `front` follow from the others: the first two are the paper's, the third
-- is what a caller goes on with
pub record ReadsTable (s : List ℕ) (k p w k' p' w' : List Float) (r : Result Curve Refusal) : Type 0 where
  pub means : Means s (table_of s)
  pub answer : r ≡ answer_of (table_of s) (length k) (length p) (length w)
  pub number : (table_answer_refusal r).number ≡ number_of (table_of s) (length k) (length p) (length w)
  pub values : table_answer_values r ≡ values_of (table_of s) (length k) (length p) (length w)
  pub runs : Lent (handed (unvalidated r) (table_of s)) k p w k' p' w'
  pub front : FrontOf r k' p' w'
