-- What the passes of the code promise each other. No contract of a public call names any of it.
-- Assumes nothing.
use Rattle.std.specs.Prelude.{ℕ, ◌+◌, ◌*◌, ◌/◌, ◌%◌, ◌≤◌, ◌<◌, Bool, true, false, cond, ◌⊎◌, ◌≡◌, List, length, set, take, drop, ltb, Float, Result, Ok, Err}
use Rattle.std.specs.Float.{binary64}
use Rattle.std.specs.Float.Ieee.{div}
use Rattle.doubles.specs.Run.{at}
use Rattle.doubles.specs.Value.{one+}
use Rattle.knots.specs.Below.{all_below}
use Rattle.knots.specs.Curve.{count_of}
use Rattle.knots.specs.declared.refusal.Refusal.{Refusal}
use Rattle.runs.specs.Lent.{padded}
use Rattle.runs.specs.Point.{point_of}
use Rattle.runs.specs.Weight.{weight_at}
use Rattle.runs.specs.declared.vector.Vector.{Vector}
use Rattle.edits.specs.Control.{vector_of, lift_of, is_lifted}
use Rattle.edits.specs.Work.{knots_from, points_from, weights_from}
use Rattle.edits.specs.Outcome.{Outcome, gives, refuses}
use Rattle.edits.specs.declared.control.Control.{Control}

-- four numbers as a row, the fourth where there are weights; row i of a run, and it stored; a point with its weight as a row, and point i of two runs as one
abbrev pub row_by : Bool → Float → Float → Float → Float → Control
row_by g x y z w = record { x = x; y = y; z = z; w = cond g w one+ }

abbrev pub row_of : Bool → List Float → ℕ → Control
row_of g xs i = record { x = at xs (i * 4); y = at xs (i * 4 + 1); z = at xs (i * 4 + 2); w = cond g (at xs (i * 4 + 3)) one+ }

unfoldable pub row_put : Bool → List Float → ℕ → Control → List Float
row_put g xs i q =
    cond (ltb i (length xs / 4))
    (cond g (set (set (set (set xs (i * 4) q.x) (i * 4 + 1) q.y) (i * 4 + 2) q.z) (i * 4 + 3) q.w) (set (set (set xs (i * 4) q.x) (i * 4 + 1) q.y) (i * 4 + 2) q.z))
    xs

abbrev pub kept_row : Vector → Float → Control
kept_row v w = record { x = v.x; y = v.y; z = v.z; w = w }

abbrev pub given_row : List Float → Bool → List Float → ℕ → Control
given_row ps g ws i = kept_row (point_of ps i) (weight_at g ws i)

-- what of a row is stored
abbrev pub stored : Bool → Control → Control
stored g q = record { x = q.x; y = q.y; z = q.z; w = cond g q.w one+ }

-- a row's control, relative to o, its weight over the scale m
abbrev pub lift_row : Float → Vector → Bool → Control → Control
lift_row m o g q = lift_of o (vector_of q) (cond g (div binary64 q.w m) one+)

-- a place that the rows below n leave as it is, and one outside the knots of n points
abbrev pub Untouched : Bool → ℕ → ℕ → Type 0
Untouched g n j = (n * 4 ≤ j) ⊎ ((g ≡ false) × (j % 4 ≡ 3))

abbrev pub Outside : ℕ → ℕ → ℕ → ℕ → Type 0
Outside a p n j = (j < a) ⊎ (a + (n + p + 1) ≤ j)

-- one row is stored
pub record RowPut (g : Bool) (i : ℕ) (q : Control) (r₀ r₁ : List Float) : Type 0 where
  pub row : row_of g r₁ i ≡ stored g q
  pub rest : (j : ℕ) → (j < i * 4) ⊎ Untouched g (i + 1) j → at r₁ j ≡ at r₀ j

-- n rows are f
pub record RowsLaid (g : Bool) (f : ℕ → Control) (n : ℕ) (r₀ r₁ : List Float) : Type 0 where
  pub rows : (i : ℕ) → i < n → row_of g r₁ i ≡ f i
  pub rest : (j : ℕ) → Untouched g n j → at r₁ j ≡ at r₀ j

-- knots stand from place a on
pub record KnotsLaid (a : ℕ) (ks w₀ w₁ : List Float) : Type 0 where
  pub knots : take (length ks) (drop a w₁) ≡ ks
  pub rest : (j : ℕ) → (j < a) ⊎ (a + length ks ≤ j) → at w₁ j ≡ at w₀ j

-- r says that no control of n is one for 19; then they stand in the run
pub record LiftDone (g : Bool) (h : ℕ → Control) (n : ℕ) (r₀ r₁ : List Float) (r : Bool) : Type 0 where
  pub answer : r ≡ all_below (λ i. is_lifted (h i)) n
  pub rows : r ≡ true → (i : ℕ) → i < n → row_of g r₁ i ≡ h i
  pub rest : (j : ℕ) → Untouched g n j → at r₁ j ≡ at r₀ j

-- the curve of n points that stands in a run w₁ is this one, and the other numbers are those of w₀
pub record Stands (a p n : ℕ) (g : Bool) (ks ps ws w₀ w₁ : List Float) : Type 0 where
  pub knots : knots_from a p n w₁ ≡ ks
  pub points : points_from n w₁ ≡ ps
  pub weights : weights_from g n w₁ ≡ ws
  pub rest : (j : ℕ) → Untouched g n j → Outside a p n j → at w₁ j ≡ at w₀ j

-- a curve stands in a run: the points as rows, the knots from place a on
pub record CurveIn (a : ℕ) (ks ps : List Float) (g : Bool) (ws w₀ w₁ : List Float) : Type 0 where
  pub rows : (i : ℕ) → i < count_of ps → row_of g w₁ i ≡ given_row ps g ws i
  pub knots : take (length ks) (drop a w₁) ≡ ks
  pub rest : (j : ℕ) → Untouched g (count_of ps) j → (j < a) ⊎ (a + length ks ≤ j) → at w₁ j ≡ at w₀ j

-- an outcome in outputs of a, b and c numbers
unfoldable pub OutMeets : ℕ → ℕ → ℕ → Outcome → List Float → List Float → List Float → Result Unit Refusal → Type 0
OutMeets a b c (gives ks ps ws) k₁ p₁ w₁ r = (r ≡ Ok tt) × (k₁ ≡ padded a ks) × (p₁ ≡ padded b ps) × (w₁ ≡ padded c ws)
OutMeets a b c (refuses x) k₁ p₁ w₁ r = r ≡ Err x
