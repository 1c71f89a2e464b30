-- How a record is written: the table of a call's numbers, what the call answers, and what it leaves in the lent bytes.
-- Assumes nothing.
use Rattle.knots.specs.declared.refusal.Refusal.{Refusal}
use Rattle.record.specs.Validated.{curve_as}
use Rattle.std.specs.Prelude.{Option, Some, None, Result, Ok, Err}
use Rattle.std.specs.Prelude.{ℕ, ◌+◌, ◌-◌, ◌*◌, Bool, true, false, cond, ◌&&◌, ◌≡◌, List, ◌++◌, map, length, take, replicate, leb, ltb, Float}
use Rattle.std.specs.Float.{binary64}
use Rattle.std.specs.Float.Ieee.{to_bits}
use Rattle.knots.specs.Refusal.{refuse}
use Rattle.knots.specs.declared.refusal.Reason.TheVariants.{LengthBad}
use Rattle.record.specs.Format.{Table, Patterns, encode}
use Rattle.record.specs.Reading.{table_of, layout, numbers}
use Rattle.record.specs.declared.table.Curve.{Curve}

-- the patterns of doubles: a NaN's is the quiet one with no sign and no payload
abbrev pub bits : List Float → List ℕ
bits xs = map (λ (x : Float). to_bits binary64 x) xs

-- the numbers of a run are doubles: their patterns are such, and are read as these numbers
abbrev pub Kept : List Float → Type 0
Kept xs = Patterns (bits xs) × (numbers (bits xs) ≡ xs)

-- weights that are not given are not looked at
abbrev pub chosen : Bool → List Float → Option (List ℕ)
chosen false ws = None
chosen true ws = Some (bits ws)

abbrev pub table_from : ℕ → List Float → List Float → Bool → List Float → Table
table_from p ks ps rational ws = record { degree = p; knots = bits ks; points = bits ps; weights = chosen rational ws }

-- whether the format holds a table, and whether its record fits into a run of bytes
abbrev pub holdable : Table → Bool
holdable t = ltb t.degree 65536 && leb (length (encode t)) 65536

abbrev pub writable : Table → ℕ → Bool
writable t room = holdable t && leb (length (encode t)) room

-- the bytes of a weights field, and of a record of these counts where the format holds it
abbrev pub weight_bytes : Bool → ℕ → ℕ
weight_bytes rational w = cond rational (3 + 8 * w) 0

abbrev pub size_of : ℕ → ℕ → ℕ → ℕ → Option ℕ
size_of p k n more = cond (ltb p 65536 && leb (11 + 8 * k + 8 * n + more) 65536) (Some (11 + 8 * k + 8 * n + more)) None

-- the promise of `write_record`: 30 and zeros, or the record, its length, and zeros after it
pub record Writes (t : Table) (before after : List ℕ) (r : Result ℕ Refusal) : Type 0 where
  pub answer : r ≡ cond (writable t (length before)) (Ok (length (encode t))) (Err (refuse LengthBad))
  pub left : after ≡ cond (writable t (length before)) (encode t ++ replicate (length before - length (encode t)) 0) (replicate (length before) 0)

-- what is read of what was written: the table, with the doubles of the call bit for bit (a NaN as the one NaN)
pub record ReadsBack (p : ℕ) (ks ps : List Float) (rational : Bool) (ws : List Float) (after : List ℕ) (r : Result ℕ Refusal) : Type 0 where
  pub table : (n : ℕ) → r ≡ Ok n → table_of (take n after) ≡ Some (table_from p ks ps rational ws)
  pub knots : numbers (bits ks) ≡ ks
  pub points : numbers (bits ps) ≡ ps
  pub weights : numbers (bits ws) ≡ ws

-- an answer of `read_table`, with the runs k, q, w that it leaves, is the curve that was written. Weights that were not given are not there
pub record SameCurve (p : ℕ) (ks ps : List Float) (rational : Bool) (ws k q w : List Float) (r : Result Curve Refusal) : Type 0 where
  pub answer : r ≡ curve_as (layout (table_from p ks ps rational ws)) rational
  pub knots : take (length ks) k ≡ ks
  pub points : take (length ps) q ≡ ps
  pub weights : rational ≡ true → take (length ws) w ≡ ws
