-- A weights field of length 0: the table is refused by what refuses it without the field, and by 9 where nothing does. So it never is a curve.
-- Assumes nothing.
use Rattle.std.specs.Prelude.{Option, Some, None, Result}
use Prim.Native.Nat.{ℕ, ◌≤◌}
use mathlib.Core.Bool.{Bool, true, false, cond}
use mathlib.Core.Path.{◌≡◌, refl, sym, ◌∙◌, ap}
use mathlib.Core.List.{List, [], ◌++◌, append-nil}
use native.Mathlib.Omega.{arith}
use lib.ListN.{length, length-append}
use lib.Dec.{eqb}
use lib.Ieee.{Float}
use borrow.Author.Tests.{eqb-false}
use Rattle.knots.specs.Refusal.{refuse, or_else}
use Rattle.knots.specs.declared.refusal.Reason.TheVariants.{WeightCount}
use Rattle.knots.specs.declared.refusal.Refusal.{Refusal}
use Rattle.knots.proofs.Curves.{empty-weights}
use Rattle.record.specs.Format.{Table, IsRecordOf, little, doubles, head, field, optional, encode}
use Rattle.record.specs.Reading.{table_of, layout, room_for, numbers}
use Rattle.record.specs.Validated.{refusal_in, number_of, ReadsTable}
use Rattle.record.specs.Numbers.{table_answer_refusal}
use Rattle.record.specs.Worked.{weights0}
use Rattle.record.specs.declared.table.Curve.{Curve}
use Rattle.record.proofs.Tables.{front-encode, parts, complete}

-- a table by its degree, knots, points and weights
abbrev pub table_with : ℕ → List ℕ → List ℕ → Option (List ℕ) → Table
table_with d ks ps ws = record { degree = d; knots = ks; points = ps; weights = ws }

-- a number of a refusal, and 9 where there is none
abbrev pub or_nine : ℕ → ℕ
or_nine n = cond (eqb n 0) 9 n

nine-some : (n : ℕ) → or_nine n ≡ 0 → ⊥
nine-some n = go (eqb n 0) refl
  where
    go : (z : Bool) → eqb n 0 ≡ z → cond z 9 n ≡ 0 → ⊥
    go true e h = omega arith
    go false e h = eqb-false n 0 e h

by_number : (z : Bool) (r : Refusal) → (cond z (refuse WeightCount) r).number ≡ cond z 9 r.number
by_number true r = refl
by_number false r = refl

by-room : (b : Bool) (r : Refusal) → cond b (or_else r (refuse WeightCount)).number 30 ≡ or_nine (cond b r.number 30)
by-room true r = by_number (eqb r.number 0) r
by-room false r = refl

module _ (d : ℕ) (ks ps : List ℕ) where
  empty-refused : refusal_in (table_with d ks ps (Some [])) ≡ or_else (refusal_in (table_with d ks ps None)) (refuse WeightCount)
  unfolding refusal_in
  empty-refused = empty-weights d (numbers ks) (numbers ps)

  -- both tables need the same room
  empty-number : (k p w : ℕ) → number_of (Some (table_with d ks ps (Some []))) k p w ≡ or_nine (number_of (Some (table_with d ks ps None)) k p w)
  empty-number k p w = rw empty-refused (by-room (room_for (layout (table_with d ks ps None)) k p w) (refusal_in (table_with d ks ps None)))

  -- what `read_table` answers of a record with an empty weights field, by the number of the same table without the field
  module _ (s : List ℕ) (found : table_of s ≡ Some (table_with d ks ps (Some []))) (k p w k' p' w' : List Float) (r : Result Curve Refusal) (reads : ReadsTable s k p w k' p' w' r) where
    pub empty-field : (table_answer_refusal r).number ≡ or_nine (number_of (Some (table_with d ks ps None)) (length k) (length p) (length w))
    empty-field =
        reads.number ∙ (ap (λ (o : Option Table). number_of o (length k) (length p) (length w)) found ∙ empty-number (length k) (length p) (length w))

    pub never-curve : (table_answer_refusal r).number ≡ 0 → ⊥
    never-curve z = nine-some (number_of (Some (table_with d ks ps None)) (length k) (length p) (length w)) (sym empty-field ∙ z)

  -- a record without weights, and the same bytes with the field behind them
  module _ (s : List ℕ) (held : IsRecordOf s (table_with d ks ps None)) where
    -- such a record has 3 bytes more than a multiple of 8, so there is room for the field
    short : length (s ++ weights0) ≤ 65536
    unfolding optional
    short = let long = (parts s (table_with d ks ps None) held).long in rw length-append (omega (arith, held.short))

    bytes : s ++ weights0 ≡ encode (table_with d ks ps (Some []))
    unfolding optional field head little doubles
    bytes = rw (held.bytes, sym (front-encode (table_with d ks ps None)), append-nil) (front-encode (table_with d ks ps (Some [])))

    pub field-behind : table_of (s ++ weights0) ≡ Some (table_with d ks ps (Some []))
    field-behind =
        complete (s ++ weights0) (table_with d ks ps (Some []))
        (record { bytes = bytes; short = short; degree = held.degree; knots = held.knots; points = held.points; weights = tt })
