-- The answers of `bound_spans` and `bound_points`: for each nonempty span what `bound_curve` and `bound_point` answer on its closed range, in a row.
-- Assumes nothing.
use Rattle.std.specs.Prelude.{Result, Ok, Err}
use Rattle.std.specs.Prelude.{ℕ, zero, suc, ◌+◌, ◌-◌, ◌*◌, Bool, true, cond, List, [], ◌∷◌, ◌++◌, length, Float}
use Rattle.doubles.specs.Run.{at}
use Rattle.doubles.specs.Value.{zero+}
use Rattle.interval.specs.declared.Interval.{Interval}
use Rattle.knots.specs.Refusal.{or_else}
use Rattle.knots.specs.Curve.{count_of}
use Rattle.knots.specs.Span.{nonempty}
use Rattle.knots.specs.declared.refusal.Refusal.{Refusal}
use Rattle.bounds.specs.Curve.{bound_of}
use Rattle.bounds.specs.Point.{point_only}
use Rattle.bounds.specs.Numbers.{bounded_refusal, bounded_values, point_values, six_of}
use Rattle.bounds.specs.declared.answer.Triple.{Triple}
use Rattle.bounds.specs.declared.answer.NurbsBounds.{NurbsBounds}
use Rattle.many.specs.Rows.{RowsMeet, row_of}
use Rattle.many.specs.Start.{table_refusal, rooms_refusal}
use Rattle.many.specs.declared.boxes.BoxRow.{BoxRow}

-- the nonempty spans among the k places from s on, and those of a curve
unfoldable pub spans_from : ℕ → List Float → ℕ → List ℕ
spans_from zero ks s = []
spans_from (suc k) ks s = cond (nonempty ks s) (s ∷ []) [] ++ spans_from k ks (s + 1)

abbrev pub spans_of : ℕ → List Float → List Float → List ℕ
spans_of p ks ps = spans_from (count_of ps - p) ks p

-- how many numbers a row has: of the point alone, or with du and dv
abbrev pub box_width : Bool → ℕ
box_width d = cond d 6 18

module _ (p : ℕ) (ks ps : List Float) (g : Bool) (ws : List Float) where
  -- span s over its own closed range
  abbrev pub bound_in : ℕ → Result NurbsBounds Refusal
  bound_in s = bound_of p ks ps g ws (at ks s) (at ks (s + 1))

  -- the span with the number of its refusal or 0, and the box
  abbrev pub mark_at : ℕ → List ℕ
  mark_at s = s ∷ (bounded_refusal (bound_in s)).number ∷ []

  abbrev pub box_at : ℕ → List Float
  box_at s = row_of 18 (bounded_values (bound_in s))

  -- the box, or the point's part of it
  abbrev pub box_at_by : Bool → ℕ → List Float
  box_at_by d s = row_of (box_width d) (cond d (point_values (point_only (bound_in s))) (bounded_values (bound_in s)))

  -- the curve's, 31, 30 for lent runs of a and b numbers
  unfoldable pub spans_start : ℕ → ℕ → Refusal
  spans_start a b = let n = length (spans_of p ks ps) in or_else (table_refusal p ks ps g ws) (rooms_refusal a (n * 2) b (n * 18))

  -- the same where a box has w numbers
  unfoldable pub spans_start_by : ℕ → ℕ → ℕ → Refusal
  spans_start_by w a b = let n = length (spans_of p ks ps) in or_else (table_refusal p ks ps g ws) (rooms_refusal a (n * 2) b (n * w))

  -- the promises
  abbrev pub SpansMeet : ℕ → ℕ → List ℕ → List Float → Result ℕ Refusal → Type 0
  SpansMeet a b = RowsMeet (spans_start a b) (spans_of p ks ps) mark_at box_at a b

  abbrev pub BoxesMeet : Bool → ℕ → ℕ → List ℕ → List Float → Result ℕ Refusal → Type 0
  BoxesMeet d a b = RowsMeet (spans_start_by (box_width d) a b) (spans_of p ks ps) mark_at (box_at_by d) a b

  abbrev pub PointSpansMeet : ℕ → ℕ → List ℕ → List Float → Result ℕ Refusal → Type 0
  PointSpansMeet = BoxesMeet true

-- ---- what the parts of the code leave
abbrev pub no_interval : Interval
no_interval = record { lo = zero+; hi = zero+ }

abbrev pub no_triple : Triple
no_triple = record { x = no_interval; y = no_interval; z = no_interval }

abbrev pub no_bounds : NurbsBounds
no_bounds = record { point = no_triple; du = no_triple; dv = no_triple }

abbrev pub point_bounds : Triple → NurbsBounds
point_bounds t = record { point = t; du = no_triple; dv = no_triple }

-- what is stored of an answer: no box where it is refused
abbrev pub box_row : Result NurbsBounds Refusal → BoxRow
box_row (Ok b) = record { number = 0; bounds = b }
box_row (Err r) = record { number = r.number; bounds = no_bounds }

abbrev pub point_box_row : Result Triple Refusal → BoxRow
point_box_row (Ok t) = record { number = 0; bounds = point_bounds t }
point_box_row (Err r) = record { number = r.number; bounds = no_bounds }

abbrev pub row_by : Bool → Result NurbsBounds Refusal → BoxRow
row_by d a = cond d (point_box_row (point_only a)) (box_row a)

abbrev pub marks_of : ℕ → BoxRow → List ℕ
marks_of s r = s ∷ r.number ∷ []

abbrev pub box_of : BoxRow → List Float
box_of r = six_of r.bounds.point ++ (six_of r.bounds.du ++ six_of r.bounds.dv)

abbrev pub box_of_by : Bool → BoxRow → List Float
box_of_by d r = six_of r.bounds.point ++ cond d [] (six_of r.bounds.du ++ six_of r.bounds.dv)
