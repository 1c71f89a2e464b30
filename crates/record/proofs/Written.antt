-- The fields of a record stored one after another are the record, and what a call of the writer leaves.
-- Assumes nothing.
use Rattle.std.specs.Prelude.{Some, None, Ok, Err}
use Prim.Native.Nat.{ℕ, ◌+◌, ◌*◌, ◌≤◌, ◌<◌}
use mathlib.Core.Bool.{Bool, true, false, cond}
use mathlib.Core.Path.{◌≡◌, refl, sym, ◌∙◌, ap}
use mathlib.Core.List.{List, ◌++◌, append-nil}
use native.Mathlib.Omega.{arith}
use lib.ListN.{length, replicate, length-append, length-map}
use borrow.Author.Tests.{le-leb, lt-leb}
use lib.Ieee.{Float}
use lib.Seq.{sets}
use Rattle.knots.specs.Refusal.{refuse}
use Rattle.knots.specs.declared.refusal.Reason.TheVariants.{LengthBad}
use Rattle.record.specs.Format.{little, doubles, head, field, optional, encode, Table}
use Rattle.record.specs.Writing.{bits, chosen, table_from, weight_bytes, size_of, holdable, Writes}
use Rattle.record.proofs.Tests.{held, bad-is, is_same}
use Rattle.record.proofs.Little.{length-little}
use Rattle.record.proofs.Runs.{length-doubles}
use Rattle.record.proofs.Fields.{length-head, length-field}
use Rattle.record.proofs.Tables.{front, front-encode, length-encode}
use Rattle.record.proofs.Stores.{sets-next, sets-front}

-- a field of doubles
abbrev pub run : ℕ → List Float → List ℕ
run tag xs = field tag (doubles (bits xs))

length_run : (tag : ℕ) (xs : List Float) → length (run tag xs) ≡ 3 + 8 * length xs
length_run tag xs = rw (length-field, length-doubles, length-map)

length-chosen : (rational : Bool) (ws : List Float) → length (optional 4 (chosen rational ws)) ≡ weight_bytes rational (length ws)
unfolding optional
length-chosen false ws = refl
length-chosen true ws = length_run 4 ws

not-held : (n : ℕ) (b : Bool) → cond b (Some n) None ≡ None → b ≡ false
not-held n true e = absurd (bad-is (sym e))
not-held n false e = refl

-- ---- the stores

module _ (l : List ℕ) (p : ℕ) (ks ps : List Float) where
  pub degree-put : sets (sets l 0 (head 1 2)) 3 (little 2 p) ≡ sets l 0 (field 1 (little 2 p))
  unfolding field
  degree-put = sets-next l (head 1 2) (little 2 p) 3 (length-head 1 2) ∙ rw (length-little 2 p)

  abbrev fronts : List ℕ
  fronts = front p (bits ks) (bits ps)

  length_front : length fronts ≡ 8 + 8 * length ks + 3 + 8 * length ps
  unfolding front
  length_front = rw (length-append, length-append, length_run, length_run, length-field, length-little) (omega arith)

  pub front-put : sets (sets (sets l 0 (field 1 (little 2 p))) 5 (run 2 ks)) (8 + 8 * length ks) (run 3 ps) ≡ sets l 0 fronts
  unfolding front
  front-put =
      let first = field 1 (little 2 p) in
      let five : length first ≡ 5 = rw (length-field, length-little) in
      let two : length (first ++ run 2 ks) ≡ 8 + 8 * length ks = rw (length-append, five, length_run) (omega arith) in
      ap (λ (x : List ℕ). sets x (8 + 8 * length ks) (run 3 ps)) (sets-next l first (run 2 ks) 5 five)
      ∙ sets-next l (first ++ run 2 ks) (run 3 ps) (8 + 8 * length ks) two

  -- the five runs of bytes as the stores leave them
  pub front-stored : {o₁ o₂ o₃ o₄ : List ℕ} → o₁ ≡ sets l 0 (head 1 2) → o₂ ≡ sets o₁ 3 (little 2 p) → o₃ ≡ sets o₂ 5 (run 2 ks) → o₄ ≡ sets o₃ (8 + 8 * length ks) (run 3 ps) → o₄ ≡ sets l 0 fronts
  front-stored e₁ e₂ e₃ e₄ = e₄ ∙ rw (e₃, e₂, e₁, degree-put) front-put

  pub polynomial-put : (ws : List Float) → sets l 0 fronts ≡ sets l 0 (encode (table_from p ks ps false ws))
  unfolding optional
  polynomial-put ws = ap (λ (x : List ℕ). sets l 0 x) (sym (append-nil fronts) ∙ front-encode (table_from p ks ps false ws))

  pub rational-put : (ws : List Float) → sets (sets l 0 fronts) (8 + 8 * length ks + 3 + 8 * length ps) (run 4 ws) ≡ sets l 0 (encode (table_from p ks ps true ws))
  unfolding optional
  rational-put ws = sets-next l fronts (run 4 ws) _ length_front ∙ ap (λ (x : List ℕ). sets l 0 x) (front-encode (table_from p ks ps true ws))

-- ---- the answer

module _ (p : ℕ) (ks ps : List Float) (rational : Bool) (ws : List Float) where
  abbrev t : Table
  t = table_from p ks ps rational ws

  pub length-table : length (encode t) ≡ 11 + 8 * length ks + 8 * length ps + weight_bytes rational (length ws)
  length-table = length-encode t ∙ rw (length-map, length-map, length-chosen rational ws)

  pub size-table : size_of p (length ks) (length ps) (weight_bytes rational (length ws)) ≡ cond (holdable t) (Some (length (encode t))) None
  size-table = rw length-table

  pub size_none : size_of p (length ks) (length ps) (weight_bytes rational (length ws)) ≡ None → holdable t ≡ false
  size_none e = not-held _ (holdable t) (sym size-table ∙ e)

  pub size-some : (n : ℕ) → size_of p (length ks) (length ps) (weight_bytes rational (length ws)) ≡ Some n → (holdable t ≡ true) × (length (encode t) ≡ n)
  size-some n e = let h = held None (Some n) bad-is _ _ (sym size-table ∙ e) in (h.0, is_same h.1)

module _ (t : Table) (before : List ℕ) where
  -- the format does not hold the table
  pub writes-none : holdable t ≡ false → Writes t before (replicate (length before) 0) (Err (refuse LengthBad))
  writes-none h = record { answer = rw h; left = rw h }

  -- the output is too small
  pub writes_short : holdable t ≡ true → length before < length (encode t) → Writes t before (replicate (length before) 0) (Err (refuse LengthBad))
  writes_short h l = record { answer = rw (h, lt-leb _ _ l); left = rw (h, lt-leb _ _ l) }

  pub writes-all : holdable t ≡ true → length (encode t) ≤ length before → Writes t before (sets (replicate (length before) 0) 0 (encode t)) (Ok (length (encode t)))
  writes-all h l = record { answer = rw (h, le-leb _ _ l); left = rw (h, le-leb _ _ l) (sets-front (length before) 0 (encode t) l) }
