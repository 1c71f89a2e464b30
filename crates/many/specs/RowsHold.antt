-- The promises of `bound_spans` and `bound_points` on the rows that they leave: each row that is answered holds the exact point, with its derivatives or alone, over its span's closed range, and 28 and 29 are given by none.
use Rattle.std.specs.Prelude.{Result, Ok, Err}
use Rattle.bounds.specs.declared.answer.NurbsBounds.{NurbsBounds}
use Rattle.knots.specs.declared.refusal.Refusal.{Refusal}
use Rattle.std.specs.Prelude.{ℕ, ◌+◌, ◌*◌, ◌<◌, Bool, cond, ◌≡◌, List, eqb, get_or, Float}
use Rattle.doubles.specs.Run.{at}
use Rattle.knots.specs.Refusal.{numbered}
use Rattle.knots.specs.Curve.{count_of}
use Rattle.runs.specs.Fraction.{coordinate_value}
use Rattle.bounds.specs.Holds.{HoldsOn, PointHoldsOn, NotIdle}
use Rattle.bounds.specs.Point.{point_only}
use Rattle.bounds.specs.Numbers.{bounded_refusal, point_refusal}
use Rattle.bounds.specs.Eighteen.{bounds_by}
use Rattle.many.specs.Numbers.{many_answer_refusal}

-- row i of both runs, read back as an answer: its bounds where its number is 0
abbrev pub answer_at : List ℕ → List Float → ℕ → Result NurbsBounds Refusal
answer_at marks boxes i = let n = get_or marks (i * 2 + 1) 0 in cond (eqb n 0) (Ok (bounds_by (λ j. at boxes (i * 18 + j)))) (Err (numbered n))

pub record RowsHold (p : ℕ) (ks ps : List Float) (g : Bool) (ws : List Float) (marks : List ℕ) (boxes : List Float) (A : Result ℕ Refusal) : Type 0 where
  pub idle : NotIdle (many_answer_refusal A).number
  pub each : (n : ℕ) → A ≡ Ok n → (i : ℕ) → i < n →
      let s = get_or marks (i * 2) 0 in
      let B = answer_at marks boxes i in
      HoldsOn p s ks (count_of ps) g ws (at ks s) (at ks (s + 1)) (coordinate_value ps) B × NotIdle (bounded_refusal B).number

-- row i where a box has w numbers
abbrev pub answer_at_by : ℕ → List ℕ → List Float → ℕ → Result NurbsBounds Refusal
answer_at_by w marks boxes i = let m = get_or marks (i * 2 + 1) 0 in cond (eqb m 0) (Ok (bounds_by (λ j. at boxes (i * w + j)))) (Err (numbered m))

-- Row s i is said of each row i, s its span
pub record EachHolds (Row : ℕ → ℕ → Type 0) (marks : List ℕ) (A : Result ℕ Refusal) : Type 0 where
  pub idle : NotIdle (many_answer_refusal A).number
  pub each : (n : ℕ) → A ≡ Ok n → (i : ℕ) → i < n → Row (get_or marks (i * 2) 0) i

module _ (p : ℕ) (ks ps : List Float) (g : Bool) (ws : List Float) (marks : List ℕ) (boxes : List Float) where
  abbrev pub PointBoxHolds : ℕ → ℕ → Type 0
  PointBoxHolds s i = let B = point_only (answer_at_by 6 marks boxes i) in PointHoldsOn p s ks (count_of ps) g ws (at ks s) (at ks (s + 1)) (coordinate_value ps) B × NotIdle (point_refusal B).number

  abbrev pub PointRowsHold : Result ℕ Refusal → Type 0
  PointRowsHold = EachHolds PointBoxHolds marks
