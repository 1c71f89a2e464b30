-- Stores into a run, one after another: `sets l i vs` is the run l with vs stored from place i on.
-- Assumes nothing.
use Prim.Native.Nat.{ℕ, ◌+◌, ◌-◌, ◌*◌, ◌≤◌, ◌<◌}
use mathlib.Core.Path.{◌≡◌, ◌∙◌}
use mathlib.Core.List.{List, [], ◌∷◌, ◌++◌}
use native.Mathlib.Nat.{zero-add}
use native.Mathlib.Omega.{arith}
use lib.ListN.{length, get_or, set, take, replicate, length-replicate}
use lib.Seq.{sets, sets-eq}
use lib.Ieee.{Float, nan, binary64, to_bits}
use borrow.Rule.Slice.PartMut.{put_mid}
use Rattle.std.specs.Int.{bytes_low_first}
use Rattle.knots.proofs.Fill.{sets-append, drop-replicate, copied}
use Rattle.record.specs.Format.{little, doubles, head, field}
use Rattle.record.specs.Writing.{bits}
use Rattle.record.proofs.Little.{length-little, little-bytes}
use Rattle.record.proofs.Runs.{length-bits, doubles-more}
use Rattle.record.proofs.Fields.{length-head}

module _ {A : Type 0} where
  -- a run of stores behind a front
  pub sets-next : (l p q : List A) (a : ℕ) → length p ≡ a → sets (sets l 0 p) a q ≡ sets l 0 (p ++ q)
  sets-next l p q a e = rw (zero-add, e) at (sets-append l 0 p q)

  -- one store more at the end of a front
  pub front-more : (l xs : List A) (y : A) (j : ℕ) → length xs ≡ j → set (sets l 0 xs) j y ≡ sets l 0 (xs ++ (y ∷ []))
  front-more l xs y j e = sets-next l xs (y ∷ []) j e

  -- a front stored into equal numbers leaves the others behind it
  pub sets-front : (n : ℕ) (a : A) (xs : List A) → length xs ≤ n → sets (replicate n a) 0 xs ≡ xs ++ replicate (n - length xs) a
  sets-front n a xs h =
      let room : 0 + length xs ≤ length (replicate n a) = rw length-replicate (omega arith) in
      sets-eq xs (replicate n a) 0 room ∙ rw (zero-add, drop-replicate)

-- ---- bytes

-- the w lowest bytes of a number, copied into a part
pub little-copied : (w i k n : ℕ) (l part : List ℕ) → part ≡ bytes_low_first 0 w n → k ≡ w → i + w ≤ length l → put_mid i k l part ≡ sets l i (little w n)
little-copied w i k n l part e h room =
    let long = length-little w n in
    copied l i k (little w n) part (e ∙ little-bytes w n) (omega arith) (omega arith)

-- one double more after j of them
pub run_more : (j a : ℕ) (xs : List Float) (l : List ℕ) → j < length xs →
    sets (sets l a (doubles (bits (take j xs)))) (a + 8 * j) (little 8 (to_bits binary64 (get_or xs j nan))) ≡ sets l a (doubles (bits (take (j + 1) xs)))
run_more j a xs l h =
    let e = sets-append l a (doubles (bits (take j xs))) (little 8 (to_bits binary64 (get_or xs j nan))) in
    rw (length-bits j xs (omega arith)) at e ∙ rw (doubles-more j xs h)

-- a head and its payload are the field
pub field-whole : (i tag : ℕ) (p l : List ℕ) → sets (sets l i (head tag (length p))) (i + 3) p ≡ sets l i (field tag p)
unfolding field
field-whole i tag p l =
    let three : length (head tag (length p)) ≡ 3 = length-head tag (length p) in
    rw three at (sets-append l i (head tag (length p)) p)
