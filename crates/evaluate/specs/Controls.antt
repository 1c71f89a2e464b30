-- Control points and weights under an evaluation, with the operations and the order of the source: each is one rounding of IEEE 754.
-- ps are coordinates, g says whether weights ws are given.
-- Assumes nothing.
use Rattle.std.specs.Prelude.{ℕ, zero, suc, ◌+◌, Bool, true, false, cond, List, Float}
use Rattle.std.specs.Float.{binary64}
use Rattle.std.specs.Float.Ieee.{add, sub, mul}
use Rattle.doubles.specs.Run.{at}
use Rattle.doubles.specs.Value.{zero+, one+}
use Rattle.runs.specs.Larger.{largest_from}
use Rattle.runs.specs.Point.{point_of}
use Rattle.runs.specs.Scale.{weight_of}
use Rattle.runs.specs.declared.vector.Vector.{Vector}
use Rattle.evaluate.specs.declared.sums.Sums.{Sums}

-- the largest of n weights from place b on, and 1.0 where none are given
unfoldable pub scale_of : Bool → List Float → ℕ → ℕ → Float
scale_of g ws b n = cond g (largest_from zero+ (λ j. at ws (b + j)) n) one+

-- four numbers at once: x, y, z and a weight, all +0.0; their sums; and s and f 0, f 1, .. of n, added one by one
abbrev pub no_sums : Sums
no_sums = record { x = zero+; y = zero+; z = zero+; w = zero+ }

unfoldable pub plus : Sums → Sums → Sums
plus a b = record { x = add binary64 a.x b.x; y = add binary64 a.y b.y; z = add binary64 a.z b.z; w = add binary64 a.w b.w }

unfoldable pub sums_from : Sums → (ℕ → Sums) → ℕ → Sums
sums_from s f zero = s
sums_from s f (suc n) = plus (sums_from s f n) (f n)

-- what a point q with weight w under a basis function n adds, relative to o: ((q - o) w) n and w n; where two derivatives are asked for, (q - o) (n w) and n w
unfoldable pub term_of : Bool → Vector → Vector → Float → Float → Sums
term_of false o q w n = record {
  x = mul binary64 (mul binary64 (sub binary64 q.x o.x) w) n;
  y = mul binary64 (mul binary64 (sub binary64 q.y o.y) w) n;
  z = mul binary64 (mul binary64 (sub binary64 q.z o.z) w) n;
  w = mul binary64 w n;
}
term_of true o q w n = record {
  x = mul binary64 (sub binary64 q.x o.x) (mul binary64 n w);
  y = mul binary64 (sub binary64 q.y o.y) (mul binary64 n w);
  z = mul binary64 (sub binary64 q.z o.z) (mul binary64 n w);
  w = mul binary64 n w;
}

module _ (two : Bool) (ps : List Float) (g : Bool) (ws : List Float) (m : Float) where
  -- active point j from place b on, under f j, relative to o
  unfoldable pub row_term : Vector → ℕ → (ℕ → Float) → ℕ → Sums
  row_term o b f j = term_of two o (point_of ps (b + j)) (weight_of g ws m (b + j)) (f j)

  -- the sums over n active points from place b on, relative to the first of them
  unfoldable pub row_sums : ℕ → (ℕ → Float) → ℕ → Sums
  unfolding row_term
  row_sums b f n = sums_from no_sums (row_term (point_of ps b) b f) n
