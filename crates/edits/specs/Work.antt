-- A curve in a lent run, for edits that insert knots: four numbers a point from the front on, its coordinates and its weight; and the knots from place a on.
-- Assumes nothing.
use Rattle.std.specs.Prelude.{ℕ, ◌+◌, ◌-◌, ◌*◌, ◌/◌, ◌%◌, Bool, cond, ◌&&◌, List, length, take, drop, leb, ltb, eqb, Float}
use Rattle.doubles.specs.Run.{at}
use Rattle.doubles.specs.Value.{one+}
use Rattle.knots.specs.Below.{all_below}
use Rattle.knots.specs.Refusal.{refuse, accepted, or_else}
use Rattle.knots.specs.declared.refusal.Reason.TheVariants.{ControlBad}
use Rattle.knots.specs.Clear.{zeros}
use Rattle.knots.specs.Curve.{count_of, formed_refusal}
use Rattle.knots.specs.declared.refusal.Refusal.{Refusal}
use Rattle.runs.specs.Tabulate.{tabulate}
use Rattle.runs.specs.Point.{point_of}
use Rattle.runs.specs.Coordinate.{coordinate}
use Rattle.knots.specs.Shape.{room_refusal}
use Rattle.edits.specs.Control.{vector_of, is_lifted}
use Rattle.edits.specs.Rows.{scale_of, lift_at, axis, given}
use Rattle.edits.specs.Start.{out_room}
use Rattle.edits.specs.Outcome.{Outcome, gives, refuses}
use Rattle.edits.specs.declared.control.Control.{Control}

-- number j of the rows of points ps and weights ws; where none are given, x stands for the weight
unfoldable pub row_number : List Float → Bool → List Float → Float → ℕ → Float
row_number ps g ws x j = cond (eqb (j % 4) 3) (cond g (at ws (j / 4)) x) (coordinate ps (j / 4) (j % 4))

-- a run d with the curve laid over it. Without weights the fourth number of a row is left as it is
unfoldable pub laid_at : ℕ → List Float → List Float → List Float → Bool → List Float → ℕ → Float
laid_at a d ks ps g ws j =
    cond (ltb j (count_of ps * 4)) (row_number ps g ws (at d j) j) (cond (leb a j && ltb j (a + length ks)) (at ks (j - a)) (at d j))

unfoldable pub laid : ℕ → List Float → List Float → List Float → Bool → List Float → List Float
laid a d ks ps g ws = tabulate (length d) (laid_at a d ks ps g ws)

-- what stands in a run xs: the knots, points and weights of n points
abbrev pub knots_from : ℕ → ℕ → ℕ → List Float → List Float
knots_from a p n xs = take (n + p + 1) (drop a xs)

abbrev pub points_from : ℕ → List Float → List Float
points_from n xs = tabulate (n * 3) (λ j. at xs (j / 3 * 4 + j % 3))

abbrev pub weights_from : Bool → ℕ → List Float → List Float
weights_from g n xs = tabulate (given g n) (λ i. at xs (i * 4 + 3))

-- 30: a run of l numbers has no room for a curve of n points and m knots
unfoldable pub work_room : ℕ → ℕ → ℕ → ℕ → Refusal
work_room n m a l = or_else (room_refusal a (n * 4)) (room_refusal l (a + m))

-- ---- a curve is laid into a run of l numbers, which stays as it was elsewhere
unfoldable pub lay_refusal : List Float → List Float → Bool → List Float → ℕ → ℕ → Refusal
lay_refusal ks ps g ws a l = or_else (room_refusal (length ws) (given g (count_of ps))) (work_room (count_of ps) (length ks) a l)

unfoldable pub lay_outcome : List Float → List Float → Bool → List Float → ℕ → ℕ → Outcome
lay_outcome ks ps g ws a l = cond (eqb (lay_refusal ks ps g ws a l).number 0) (gives ks ps ws) (refuses (lay_refusal ks ps g ws a l))

-- the refusal of an outcome, and the run that it leaves
abbrev pub refusal_of : Outcome → Refusal
refusal_of (gives ks ps ws) = accepted
refusal_of (refuses r) = r

abbrev pub work_in : ℕ → Bool → List Float → Outcome → List Float
work_in a g xs (gives ks ps ws) = laid a xs ks ps g ws
work_in a g xs (refuses r) = zeros (length xs)

-- ---- what the weights of n rows are divided by, and 1.0 where a run has not so many
unfoldable pub scale_in : ℕ → Bool → List Float → Float
scale_in n g xs = cond (leb (n * 4) (length xs)) (scale_of g (weights_from g n xs)) one+

-- the rows of n points in a run xs become controls, relative to the first point, all weights over the scale m
module _ (m : Float) (n : ℕ) (g : Bool) (xs : List Float) where
  abbrev pub controls : ℕ → Control
  controls = lift_at m (point_of (points_from n xs) 0) (points_from n xs) g (weights_from g n xs)

  -- 30, 19
  unfoldable pub lift_refusal : Refusal
  lift_refusal = or_else (room_refusal (length xs) (n * 4)) (cond (all_below (λ i. is_lifted (controls i)) n) accepted (refuse ControlBad))

  unfoldable pub control_at : ℕ → Float
  control_at j =
      cond (ltb j (n * 4)) (cond (eqb (j % 4) 3) (cond g (controls (j / 4)).w (at xs j)) (axis (j % 4) (vector_of (controls (j / 4))))) (at xs j)

  unfoldable pub lifted_run : List Float
  lifted_run = cond (eqb lift_refusal.number 0) (tabulate (length xs) control_at) (zeros (length xs))

-- ---- the curve of m points from row f and knot f on, in a run of l numbers, goes to outputs of b, c and d numbers: 30
unfoldable pub take_refusal : ℕ → ℕ → ℕ → Bool → ℕ → ℕ → ℕ → ℕ → ℕ → Refusal
take_refusal p m f g a l b c d = or_else (work_room (f + m) (f + m + p + 1) a l) (out_room p m g b c d)

-- ---- the curve of n points at the front of three runs: 30, and 1 to 10
unfoldable pub front_refusal : ℕ → ℕ → Bool → List Float → List Float → List Float → Refusal
front_refusal p n g ks ps ws = or_else (out_room p n g (length ks) (length ps) (length ws)) (formed_refusal p n (take (n + p + 1) ks) (take (n * 3) ps) g (take (given g n) ws))
