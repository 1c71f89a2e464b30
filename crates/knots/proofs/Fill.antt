-- Stores into a list, at any type: a loop that fills it from the front with one value, one store a turn, is `replicate n v ++ drop n d` after n turns; runs of stores one behind the other; a copy into a part of the list.
-- Assumes nothing.
use Prim.Native.Nat.{ℕ, zero, suc, ◌+◌, ◌-◌, ◌≤◌, ◌<◌}
use mathlib.Core.Path.{◌≡◌, refl, sym, ◌∙◌, ap, subst}
use mathlib.Core.List.{List, [], ◌∷◌, ◌++◌, append-nil}
use native.Mathlib.Nat.{not-suc-le-zero, le_of_suc-le-suc, add-zero, add-suc, suc-add, sub-zero, zero-sub, suc-sub-suc}
use native.Mathlib.Numerals.{add-one}
use native.Mathlib.Omega.{arith}
use lib.ListN.{length, set, drop, replicate, drop_of_length-le, length-set}
use lib.Seq.{sets, sets-eq, take-length}
use borrow.Rule.Slice.PartMut.{put_mid}
use Rattle.std.proofs.lemmas.Slice.{put_mid-paste}

module _ {A : Type 0} (v : A) where
  fill_suc : (n : ℕ) (d : List A) → n < length d → set (replicate n v ++ drop n d) n v ≡ replicate (suc n) v ++ drop (suc n) d
  fill_suc n [] l = absurd (not-suc-le-zero l)
  fill_suc zero (x ∷ d) l = refl
  fill_suc (suc n) (x ∷ d) l = ap (λ (t : List A). v ∷ t) (fill_suc n d (le_of_suc-le-suc l))

  pub fill_more : (n : ℕ) (d : List A) → n < length d → set (replicate n v ++ drop n d) n v ≡ replicate (n + 1) v ++ drop (n + 1) d
  fill_more n d l = subst (λ (k : ℕ). set (replicate n v ++ drop n d) n v ≡ replicate k v ++ drop k d) (sym (add-one n)) (fill_suc n d l)

  pub fill_done : (n : ℕ) (d : List A) → length d ≤ n → replicate n v ++ drop n d ≡ replicate n v
  fill_done n d l = ap (λ (t : List A). replicate n v ++ t) (drop_of_length-le d l) ∙ append-nil (replicate n v)

-- the loop that fills d with v has come to l after i stores
pub record Filled {A : Type 0} (v : A) (d l : List A) (i : ℕ) : Type 0 where
  pub within : i ≤ length d
  pub long : length l ≡ length d
  pub stored : l ≡ replicate i v ++ drop i d

module _ {A : Type 0} {v : A} {d l : List A} {i : ℕ} (f : Filled v d l i) where
  pub filled_more : i < length l → Filled v d (set l i v) (i + 1)
  filled_more h =
      let low : i < length d = rw f.long at h in
      record { within = omega arith; long = length-set l i v ∙ f.long; stored = ap (λ (t : List A). set t i v) f.stored ∙ fill_more v i d low }

  pub filled-all : length l ≤ i → l ≡ replicate (length d) v
  filled-all h =
      let long = f.long in
      let within = f.within in
      let e : i ≡ length d = omega arith in
      f.stored ∙ (fill_done v i d (omega arith) ∙ ap (λ (n : ℕ). replicate n v) e)

module _ {A : Type 0} where
  -- two runs of stores are one
  pub sets-append : (l : List A) (i : ℕ) (xs ys : List A) → sets (sets l i xs) (i + length xs) ys ≡ sets l i (xs ++ ys)
  sets-append l i [] ys = rw add-zero
  sets-append l i (x ∷ xs) ys = rw (add-suc, ← suc-add) (sets-append (set l i x) (suc i) xs ys)

  pub drop-replicate : (n m : ℕ) (a : A) → drop n (replicate m a) ≡ replicate (m - n) a
  drop-replicate zero m a = rw sub-zero
  drop-replicate (suc n) zero a = rw zero-sub
  drop-replicate (suc n) (suc m) a = rw suc-sub-suc (drop-replicate n m a)

  -- a copy into a part is a run of stores
  pub copied : (l : List A) (at k : ℕ) (xs part : List A) → part ≡ xs → k ≡ length xs → at + length xs ≤ length l → put_mid at k l part ≡ sets l at xs
  copied l at k xs part e h room = put_mid-paste at k l part xs (length xs) e (sym h) refl ∙ rw take-length (sym (sets-eq xs l at room))
