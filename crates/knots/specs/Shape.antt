-- Refusals that the lengths of the runs and the degree show: no number of a run is read.
-- Assumes nothing.
use Rattle.std.specs.Prelude.{ℕ, ◌+◌, ◌*◌, ◌%◌, Bool, not, cond, ◌&&◌, List, length, ltb, leb, eqb, Float}
use Rattle.knots.specs.Refusal.{refuse, accepted, along, or_else, DegreeZero, FewPoints, KnotCount, WeightCount, NetSize, LengthBad, DegreeHigh, PointsUneven}
use Rattle.knots.specs.Curve.{count_of}
use Rattle.knots.specs.declared.refusal.Refusal.{Refusal}

-- 31
unfoldable pub degree_refusal : ℕ → Refusal
degree_refusal p = cond (ltb 64 p) (refuse DegreeHigh) accepted

-- 30 of a lent run of a numbers that is to hold n
unfoldable pub room_refusal : ℕ → ℕ → Refusal
room_refusal a n = cond (ltb a n) (refuse LengthBad) accepted

-- 9 of n points
unfoldable pub weight_shape : ℕ → Bool → List Float → Refusal
weight_shape n g ws = cond (g && not (eqb (length ws) n)) (refuse WeightCount) accepted

-- 1, 2, 3
unfoldable pub knot_shape : ℕ → ℕ → List Float → Refusal
knot_shape p n ks =
    cond (eqb p 0) (refuse DegreeZero)
    (cond (leb n p) (refuse FewPoints)
    (cond (not (eqb (length ks) (n + p + 1))) (refuse KnotCount) accepted))

-- of a curve: 32, 1, 2, 3, 9
unfoldable pub curve_shape : ℕ → List Float → List Float → Bool → List Float → Refusal
curve_shape p ks ps g ws =
    cond (not (eqb (length ps % 3) 0)) (refuse PointsUneven) (or_else (knot_shape p (count_of ps) ks) (weight_shape (count_of ps) g ws))

-- of a surface: 32, 11, 1, 2, 3 of u, the same of v, 9
unfoldable pub surface_shape : ℕ → ℕ → List Float → List Float → ℕ → ℕ → List Float → Bool → List Float → Refusal
surface_shape p q us vs m n ps g ws =
    cond (not (eqb (length ps % 3) 0)) (refuse PointsUneven)
    (cond (not (eqb (count_of ps) (m * n))) (refuse NetSize)
    (or_else (along 0 (knot_shape p m us))
    (or_else (along 1 (knot_shape q n vs)) (weight_shape (count_of ps) g ws))))
