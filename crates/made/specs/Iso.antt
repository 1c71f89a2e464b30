-- Isoparametric curves of a surface, in homogeneous form, with the operations and the order of the source.
-- Assumes nothing.
use Rattle.std.specs.Prelude.{ℕ, zero, suc, ◌+◌, ◌*◌, ◌/◌, ◌%◌, ◌≤◌, ◌<◌, Bool, true, cond, ◌≡◌, List, ◌++◌, drop, Float}
use Rattle.std.specs.Float.{binary64}
use Rattle.std.specs.Float.Ieee.{mul, div}
use Rattle.doubles.specs.Value.{one+}
use Rattle.knots.specs.Below.{all_below}
use Rattle.knots.specs.Curve.{is_weight}
use Rattle.runs.specs.Tabulate.{tabulate}
use Rattle.evaluate.specs.Controls.{no_sums, sums_from}
use Rattle.runs.specs.Point.{point_of}
use Rattle.runs.specs.Weight.{weight_at}
use Rattle.runs.specs.declared.vector.Vector.{Vector}
use Rattle.evaluate.specs.declared.sums.Sums.{Sums}

-- the place of i in the fixed direction and k in the other, in a net of n columns; u says that u is the fixed one
unfoldable pub place_of : Bool → ℕ → ℕ → ℕ → ℕ
place_of u n i k = cond u (i * n + k) (k * n + i)

-- a homogeneous point: q w and 1.0 w
unfoldable pub iso_term : Vector → Float → Sums
iso_term q w = record { x = mul binary64 q.x w; y = mul binary64 q.y w; z = mul binary64 q.z w; w = mul binary64 one+ w }

-- homogeneous point k: c points from place b of the fixed direction on, under f
module _ (ps : List Float) (g : Bool) (ws : List Float) (u : Bool) (n b : ℕ) (f : ℕ → Float) where
  unfoldable pub iso_part : ℕ → ℕ → Sums
  iso_part k j = iso_term (point_of ps (place_of u n (b + j) k)) (mul binary64 (weight_at g ws (place_of u n (b + j) k)) (f j))

  unfoldable pub iso_sums : ℕ → ℕ → Sums
  unfolding iso_part
  iso_sums c k = sums_from no_sums (iso_part k) c

-- the point of a homogeneous one
abbrev pub lowered : Sums → Vector
lowered h = record { x = div binary64 h.x h.w; y = div binary64 h.y h.w; z = div binary64 h.z h.w }

-- the places of point k lie below m
abbrev pub IsoReach : ℕ → Bool → ℕ → ℕ → ℕ → ℕ → Type 0
IsoReach m u n b p k = (j : ℕ) → j ≤ p → place_of u n (b + j) k < m

-- coordinate i % 3 of point i / 3
abbrev pub part : ℕ → Sums → Float
part zero s = s.x
part (suc zero) s = s.y
part (suc (suc k)) s = s.z

unfoldable pub iso_coordinate : (ℕ → Sums) → ℕ → Float
iso_coordinate h i = div binary64 (part (i % 3) (h (i / 3))) (h (i / 3)).w

abbrev pub iso_weight : (ℕ → Sums) → ℕ → Float
iso_weight h k = (h k).w

-- r says that all m weights are weights; then the points and the weights stand at the front of the two runs
pub record IsoDone (h : ℕ → Sums) (m : ℕ) (p₀ w₀ p₁ w₁ : List Float) (r : Bool) : Type 0 where
  pub answer : r ≡ all_below (λ k. is_weight (h k).w) m
  pub points : r ≡ true → p₁ ≡ tabulate (m * 3) (iso_coordinate h) ++ drop (m * 3) p₀
  pub weights : r ≡ true → w₁ ≡ tabulate m (iso_weight h) ++ drop m w₀
