-- Boehm's knot insertion over fractions (The NURBS Book, 5.2): the knots with one knot more, and the controls blended for them.
-- U is the knots and c the controls, by index; x the new knot, which stands after place k; p the degree.
use Rattle.std.specs.Prelude.{cond, List, [], ◌∷◌, ℕ, zero, suc, ◌+◌, ◌-◌, ◌≤◌, ◌<◌, leb, eqb}
use Rattle.exact.specs.Rational.{ℚ, ◌+q◌, ◌-q◌, ◌*q◌, ◌/q◌, q0, q1, ◌≤q◌, ◌<q◌}
use Rattle.exact.specs.Spline.{Knots}

-- s is a nonempty span of a curve with count points
pub record SpanOf (U : ℕ → ℚ) (p count s : ℕ) : Type 0 where
  pub first : p ≤ s
  pub last : s < count
  pub knots : Knots U (count + suc p) s

-- t is in span s, which has its left end and not its right
pub record InSpan (U : ℕ → ℚ) (s : ℕ) (t : ℚ) : Type 0 where
  pub from : U s ≤q t
  pub to : t <q U (suc s)

-- the other way round, for the end of the curve
pub record InEnd (U : ℕ → ℚ) (s : ℕ) (t : ℚ) : Type 0 where
  pub from : U s <q t
  pub to : t ≤q U (suc s)

-- the knots with x after place k
unfoldable pub refined : (ℕ → ℚ) → ℚ → ℕ → ℕ → ℚ
refined U x k i = cond (leb i k) (U i) (cond (eqb i (suc k)) x (U (i - 1)))

-- the span of the old knots that holds span s of the refined ones
unfoldable pub held : ℕ → ℕ → ℕ
held k s = cond (leb s k) s (s - 1)

-- the share of control i, beside control i - 1: 1 up to k - p, and 0 past k
unfoldable pub share : (ℕ → ℚ) → ℚ → ℕ → ℕ → ℕ → ℚ
share U x k p i = cond (leb (i + p) k) q1 (cond (leb i k) ((x -q U i) /q (U (i + p) -q U i)) q0)

-- r of the way from a to b
abbrev pub mix : ℚ → ℚ → ℚ → ℚ
mix r a b = (q1 -q r) *q a +q r *q b

-- the controls for the refined knots
unfoldable pub inserted : (ℕ → ℚ) → ℚ → ℕ → ℕ → (ℕ → ℚ) → ℕ → ℚ
unfolding share
inserted U x k p c zero = c 0
inserted U x k p c (suc j) = mix (share U x k p (suc j)) (c j) (c (suc j))

-- the points for the refined knots: with weights it is w P that is blended, and the blended weight is taken out again
unfoldable pub inserted_point : (ℕ → ℚ) → ℚ → ℕ → ℕ → (ℕ → ℚ) → (ℕ → ℚ) → ℕ → ℚ
unfolding inserted
inserted_point U x k p w P i = inserted U x k p (λ j. w j *q P j) i /q inserted U x k p w i

-- ---- several knots, one after the other

-- a knot to insert, and its place among the knots so far
pub record Insert : Type 0 where
  pub place : ℕ
  pub knot : ℚ

-- each place is a span of the points so far
abbrev pub Fits : ℕ → ℕ → List Insert → Type 0
Fits p count [] = Unit {0}
Fits p count (a ∷ l) = (p ≤ a.place) × (a.place < count) × Fits p (suc count) l

-- each knot lies between its two neighbours of the knots so far
abbrev pub Between : (ℕ → ℚ) → List Insert → Type 0
Between U [] = Unit {0}
Between U (a ∷ l) = (U a.place ≤q a.knot) × (a.knot ≤q U (suc a.place)) × Between (refined U a.knot a.place) l

unfoldable pub refined_all : (ℕ → ℚ) → List Insert → ℕ → ℚ
unfolding refined
refined_all U [] = U
refined_all U (a ∷ l) = refined_all (refined U a.knot a.place) l

unfoldable pub held_all : List Insert → ℕ → ℕ
unfolding held
held_all [] s = s
held_all (a ∷ l) s = held a.place (held_all l s)

unfoldable pub inserted_all : (ℕ → ℚ) → ℕ → List Insert → (ℕ → ℚ) → ℕ → ℚ
unfolding inserted refined
inserted_all U p [] c = c
inserted_all U p (a ∷ l) c = inserted_all (refined U a.knot a.place) p l (inserted U a.knot a.place p c)

unfoldable pub inserted_point_all : (ℕ → ℚ) → ℕ → List Insert → (ℕ → ℚ) → (ℕ → ℚ) → ℕ → ℚ
unfolding inserted inserted_point refined
inserted_point_all U p [] w P = P
inserted_point_all U p (a ∷ l) w P =
    inserted_point_all (refined U a.knot a.place) p l (inserted U a.knot a.place p w) (inserted_point U a.knot a.place p w P)

-- ---- a part of a curve

-- the knots, or the controls, from place f on
abbrev pub cut : ℕ → (ℕ → ℚ) → ℕ → ℚ
cut f U i = U (f + i)
