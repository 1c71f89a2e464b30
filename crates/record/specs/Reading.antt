-- How a record is read: the table that bytes hold, what a call answers of it, and what it leaves in the lent runs.
-- Assumes nothing.
use Rattle.knots.specs.declared.refusal.Refusal.{Refusal}
use Rattle.std.specs.Prelude.{Option, Some, None, Result, Ok, Err}
use Rattle.std.specs.Prelude.{ℕ, zero, suc, ◌+◌, ◌-◌, ◌*◌, ◌/◌, ◌%◌, ◌<◌, Bool, not, cond, ◌&&◌, ◌≡◌, List, [], ◌∷◌, map, length, get_or, drop, leb, ltb, eqb, Float}
use Rattle.std.specs.Float.{binary64}
use Rattle.std.specs.Float.Ieee.{of_bits}
use Rattle.knots.specs.Refusal.{refuse}
use Rattle.knots.specs.declared.refusal.Reason.TheVariants.{LengthBad, RecordMalformed}
use Rattle.knots.specs.Clear.{zeros}
use Rattle.runs.specs.Lent.{padded}
use Rattle.record.specs.Format.{Table, Means, given, rational_by}
use Rattle.record.specs.declared.read.Layout.{Layout}

-- the number of the first w bytes, the lowest first
unfoldable pub number : ℕ → List ℕ → ℕ
number zero l = 0
number (suc w) l = get_or l 0 0 + 256 * number w (drop 1 l)

-- the first n patterns
unfoldable pub patterns : ℕ → List ℕ → List ℕ
patterns zero l = []
patterns (suc n) l = number 8 l ∷ patterns n (drop 8 l)

-- the length of the payload, where a whole field of this tag stands first
unfoldable pub field_of : List ℕ → ℕ → Option ℕ
field_of l tag =
    cond (ltb (length l) 3) None
    (cond (not (eqb (get_or l 0 0) tag)) None
    (cond (ltb (length l - 3) (number 2 (drop 1 l))) None
    (Some (number 2 (drop 1 l)))))

-- what is done with a count that is there
abbrev pub on_count : {X : Type 0} → Option ℕ → X → (ℕ → X) → X
on_count None other f = other
on_count (Some n) other f = f n

-- a count that is there is below m
abbrev pub Below : ℕ → Option ℕ → Type 0
Below m None = Unit {0}
Below m (Some n) = n < m

-- the degree, of a first field that has two bytes
unfoldable pub degree_of : List ℕ → Option ℕ
degree_of l = on_count (field_of l 1) None (λ n. cond (eqb n 2) (Some (number 2 (drop 3 l))) None)

-- how many doubles a field of this tag has; a part of a double is none
unfoldable pub run_of : List ℕ → ℕ → Option ℕ
run_of l tag = on_count (field_of l tag) None (λ n. cond (eqb (n % 8) 0) (Some (n / 8)) None)

-- the table whose degree, knots and points have been found: k knots from byte 8 on, n coordinates from 3 bytes after them
abbrev pub table_at : List ℕ → ℕ → ℕ → ℕ → Option (List ℕ) → Table
table_at s p k n ws = record { degree = p; knots = patterns k (drop 8 s); points = patterns n (drop (11 + 8 * k) s); weights = ws }

-- after the points: the end, or weights up to the end
unfoldable pub end_of : List ℕ → ℕ → ℕ → ℕ → Option Table
end_of s p k n =
    let l = drop (11 + 8 * k + 8 * n) s in
    cond (eqb (length l) 0) (Some (table_at s p k n None))
    (on_count (run_of l 4) None
    (λ w. cond (eqb (length l) (3 + 8 * w)) (Some (table_at s p k n (Some (patterns w (drop 3 l))))) None))

-- the table that bytes hold
unfoldable pub table_of : List ℕ → Option Table
table_of s =
    cond (ltb 65536 (length s)) None
    (on_count (degree_of s) None
    (λ p. on_count (run_of (drop 5 s) 2) None
    (λ k. on_count (run_of (drop (8 + 8 * k) s) 3) None
    (λ n. end_of s p k n))))

-- how many numbers each run of a table has
abbrev pub layout : Table → Layout
layout t =
    record {
      degree = t.degree;
      knots = length t.knots;
      points = length t.points;
      weighted = rational_by t.weights;
      weights = length (given t.weights);
    }

-- the answer of `read_record`: the layout, or 33
abbrev pub layout_of : Option Table → Result Layout Refusal
layout_of None = Err (refuse RecordMalformed)
layout_of (Some t) = Ok (layout t)

-- whether a curve of this layout is rational: an absent weights field alone means polynomial
abbrev pub rational : Layout → Bool
rational l = l.weighted

-- the promise of `read_record`
pub record ReadsLayout (s : List ℕ) (r : Result Layout Refusal) : Type 0 where
  pub means : Means s (table_of s)
  pub answer : r ≡ layout_of (table_of s)

-- whether runs of k, p and w numbers have room for a layout
abbrev pub room_for : Layout → ℕ → ℕ → ℕ → Bool
room_for l k p w = leb l.knots k && (leb l.points p && leb l.weights w)

-- the answer of `read_numbers`: 33, then 30, else the layout
abbrev pub numbers_of : Option Table → ℕ → ℕ → ℕ → Result Layout Refusal
numbers_of None k p w = Err (refuse RecordMalformed)
numbers_of (Some t) k p w = cond (room_for (layout t) k p w) (Ok (layout t)) (Err (refuse LengthBad))

-- the table that an answer hands over: one without numbers after a refusal
abbrev pub blank : Table
blank = record { degree = 0; knots = []; points = []; weights = None }

abbrev pub handed : Result Layout Refusal → Option Table → Table
handed (Ok l) (Some t) = t
handed (Ok l) None = blank
handed (Err x) o = blank

-- the doubles of patterns: every NaN pattern is the one NaN
abbrev pub numbers : List ℕ → List Float
numbers xs = map (λ (x : ℕ). of_bits binary64 x) xs

-- what clearing leaves in a run of n numbers: the one word of another crate that the contracts here cite
abbrev pub cleared : ℕ → List Float
cleared n = zeros n

-- lent runs k, p, w hold k', p', w' afterwards: the numbers of a table, and +0.0 behind them
pub record Lent (t : Table) (k p w k' p' w' : List Float) : Type 0 where
  pub knots : k' ≡ padded (length k) (numbers t.knots)
  pub points : p' ≡ padded (length p) (numbers t.points)
  pub weights : w' ≡ padded (length w) (numbers (given t.weights))

-- the promise of `read_numbers`
pub record ReadsNumbers (s : List ℕ) (k p w k' p' w' : List Float) (r : Result Layout Refusal) : Type 0 where
  pub means : Means s (table_of s)
  pub answer : r ≡ numbers_of (table_of s) (length k) (length p) (length w)
  pub runs : Lent (handed r (table_of s)) k p w k' p' w'
