-- A curve run backwards, and what `reversed` answers and leaves in the lent runs.
-- Assumes nothing.
use Rattle.std.specs.Prelude.{ℕ, ◌-◌, ◌/◌, ◌%◌, Bool, cond, ◌≡◌, List, length, Float, Result}
use Rattle.std.specs.Float.{binary64}
use Rattle.std.specs.Float.Ieee.{add, sub}
use Rattle.doubles.specs.Run.{at}
use Rattle.knots.specs.Refusal.{or_else, checked}
use Rattle.knots.specs.Curve.{count_of, curve_refusal, formed_refusal}
use Rattle.knots.specs.declared.refusal.Refusal.{Refusal}
use Rattle.runs.specs.Tabulate.{tabulate}
use Rattle.knots.specs.Shape.{room_refusal}
use Rattle.runs.specs.Coordinate.{place, coordinate}
use Rattle.runs.specs.Lent.{padded, left_in}

-- how many weights are given
unfoldable pub given_length : Bool → List Float → ℕ
given_length g ws = cond g (length ws) 0

-- number i of each run that is run backwards
abbrev pub back_knot : Float → Float → List Float → ℕ → Float
back_knot lo hi ks i = add binary64 lo (sub binary64 hi (at ks (length ks - 1 - i)))

abbrev pub back_point : List Float → ℕ → Float
back_point ps i = coordinate ps (length ps / 3 - 1 - i / 3) (i % 3)

abbrev pub back_weight : ℕ → List Float → ℕ → Float
back_weight n ws i = at ws (n - 1 - i)

-- the same by one loop: where number i of n numbers that are run backwards comes from: of points three numbers stay together
unfoldable pub back_place : Bool → ℕ → ℕ → ℕ
back_place points n i = cond points (place (n / 3 - 1 - i / 3) (i % 3)) (n - 1 - i)

-- a knot x becomes lo + (hi - x); coordinates and weights stay
unfoldable pub back_number : Bool → Float → Float → Float → Float
back_number knot lo hi x = cond knot (add binary64 lo (sub binary64 hi x)) x

abbrev pub back_at : Bool → Bool → Float → Float → ℕ → List Float → ℕ → Float
back_at knot points lo hi n xs i = back_number knot lo hi (at xs (back_place points n i))

-- the curve, over the domain from knot p to knot n; the weights that are given
unfoldable pub back_knots : ℕ → ℕ → List Float → List Float
back_knots p n ks = tabulate (length ks) (back_knot (at ks p) (at ks n) ks)

unfoldable pub back_points : List Float → List Float
back_points ps = tabulate (length ps) (back_point ps)

unfoldable pub back_weights : Bool → List Float → List Float
back_weights g ws = tabulate (given_length g ws) (back_weight (given_length g ws) ws)

module _ (p : ℕ) (ks ps : List Float) (g : Bool) (ws : List Float) where
  -- 1 to 10 of the curve that is formed
  unfoldable pub reverse_formed : Refusal
  reverse_formed = formed_refusal p (count_of ps) (back_knots p (count_of ps) ks) (back_points ps) g (back_weights g ws)

  module _ (a b c : ℕ) where
    -- the curve's refusal, 30 for outputs of a, b, c numbers
    unfoldable pub reverse_start : Refusal
    reverse_start = or_else (curve_refusal p ks ps g ws) (or_else (room_refusal a (length ks)) (or_else (room_refusal b (length ps)) (room_refusal c (given_length g ws))))

    unfoldable pub reverse_refusal : Refusal
    reverse_refusal = or_else reverse_start reverse_formed

-- the curve stands in runs of a, b, c numbers, and r answers its refusal
pub record ReverseFormed (p : ℕ) (ks ps : List Float) (g : Bool) (ws : List Float) (a b c : ℕ) (k₁ p₁ w₁ : List Float) (r : Result Unit Refusal) : Type 0 where
  pub refusal : r ≡ checked (reverse_formed p ks ps g ws)
  pub knots : k₁ ≡ padded a (back_knots p (count_of ps) ks)
  pub points : p₁ ≡ padded b (back_points ps)
  pub weights : w₁ ≡ padded c (back_weights g ws)

-- the answer r, and what is left in runs of a, b, c numbers
pub record ReverseMeets (p : ℕ) (ks ps : List Float) (g : Bool) (ws : List Float) (a b c : ℕ) (k₁ p₁ w₁ : List Float) (r : Result Unit Refusal) : Type 0 where
  pub refusal : r ≡ checked (reverse_refusal p ks ps g ws a b c)
  pub knots : k₁ ≡ left_in (reverse_refusal p ks ps g ws a b c) a (back_knots p (count_of ps) ks)
  pub points : p₁ ≡ left_in (reverse_refusal p ks ps g ws a b c) b (back_points ps)
  pub weights : w₁ ≡ left_in (reverse_refusal p ks ps g ws a b c) c (back_weights g ws)
