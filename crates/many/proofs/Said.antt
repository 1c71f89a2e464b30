-- A row as the code makes it is what its answer says: the number of its refusal and its values. Assumes nothing.
use Rattle.std.specs.Prelude.{Result, Ok, Err}
use Rattle.bounds.specs.declared.answer.NurbsBounds.{NurbsBounds}
use Rattle.evaluate.specs.declared.curve.CurveDerivs.{CurveDerivs}
use Rattle.evaluate.specs.declared.curve2.CurveDerivs2.{CurveDerivs2}
use Rattle.knots.specs.declared.refusal.Refusal.{Refusal}
use Prim.Native.Nat.{ℕ}
use mathlib.Core.Bool.{Bool, true, false, cond}
use mathlib.Core.List.{List, [], ◌∷◌}
use mathlib.Core.Path.{◌≡◌, refl, ap}
use lib.ListN.{length}
use lib.Ieee.{Float}
use Rattle.evaluate.specs.Curve.{eval_of}
use Rattle.evaluate.specs.Curve2.{eval2_of}
use Rattle.evaluate.specs.Numbers.{curve_answer_refusal, curve_answer_values, curve_answer2_refusal, curve_answer2_values}
use Rattle.bounds.specs.Point.{point_only}
use Rattle.bounds.specs.Numbers.{bounded_refusal, bounded_values, point_values}
use Rattle.many.specs.Rows.{row_of}
use Rattle.many.specs.Points.{width, number_at, numbers_at, point_row, point_row2, row_at, numbers_of}
use Rattle.many.specs.Spans.{box_width, row_by, box_of_by}

-- a row with its number, its values and their count
pub record Says {N : Type 0} (n m : N) {A : Type 0} (row values : A) (long : A → ℕ) (w : ℕ) : Type 0 where
  pub number : n ≡ m
  pub numbers : row ≡ values
  pub count : long values ≡ w

point-says : (a : Result CurveDerivs Refusal) → Says (point_row a).number (curve_answer_refusal a).number (numbers_of false (point_row a)) (row_of 6 (curve_answer_values a)) length 6
point-says (Ok d) = record { number = refl; numbers = refl; count = refl }
point-says (Err r) = record { number = refl; numbers = refl; count = refl }

point2-says : (a : Result CurveDerivs2 Refusal) → Says (point_row2 a).number (curve_answer2_refusal a).number (numbers_of true (point_row2 a)) (row_of 9 (curve_answer2_values a)) length 9
point2-says (Ok d) = record { number = refl; numbers = refl; count = refl }
point2-says (Err r) = record { number = refl; numbers = refl; count = refl }

pub row-says : (c : Bool) (p : ℕ) (ks ps : List Float) (g : Bool) (ws : List Float) (two : Bool) (t : Float)
    → Says ((row_at c p ks ps g ws two t).number ∷ []) (number_at c p ks ps g ws two t) (numbers_of two (row_at c p ks ps g ws two t)) (numbers_at c p ks ps g ws two t) length (width two)
row-says c p ks ps g ws true t = let s = point2-says (eval2_of c p ks ps g ws t) in record { number = ap (λ (n : ℕ). n ∷ []) s.number; numbers = s.numbers; count = s.count }
row-says c p ks ps g ws false t = let s = point-says (eval_of c p ks ps g ws t) in record { number = ap (λ (n : ℕ). n ∷ []) s.number; numbers = s.numbers; count = s.count }

pub box-says : (d : Bool) (a : Result NurbsBounds Refusal)
    → Says (row_by d a).number (bounded_refusal a).number (box_of_by d (row_by d a)) (row_of (box_width d) (cond d (point_values (point_only a)) (bounded_values a))) length (box_width d)
box-says true (Ok b) = record { number = refl; numbers = refl; count = refl }
box-says true (Err r) = record { number = refl; numbers = refl; count = refl }
box-says false (Ok b) = record { number = refl; numbers = refl; count = refl }
box-says false (Err r) = record { number = refl; numbers = refl; count = refl }
