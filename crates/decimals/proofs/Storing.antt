-- Texts stored one behind the other.
-- Assumes nothing.
use Prim.Native.Nat.{ℕ, suc, ◌+◌, ◌-◌, ◌≤◌, ◌<◌}
use mathlib.Core.Bool.{Bool, true, false}
use mathlib.Core.Path.{◌≡◌, refl, ◌∙◌, ap}
use mathlib.Core.List.{List, [], ◌∷◌, ◌++◌, append_assoc}
use native.Mathlib.Omega.{arith}
use borrow.Author.Tests.{le-leb, lt-leb, leb-true, leb-false}
use lib.Dec.{leb}
use lib.ListN.{length, set, length-append}
use lib.Seq.{sets}
use lib.Ieee.{Float, binary64, to_bits}
use Rattle.knots.proofs.Fill.{sets-append}
use Rattle.decimals.specs.Text.{spaced_bits}
use Rattle.decimals.specs.Stored.{Stored, Put}
use Rattle.decimals.proofs.Digits.{length_digits}

-- one text more
pub joined_at : (l : List ℕ) (at : ℕ) {o : List ℕ} (p : List ℕ) {b : ℕ} (t : List ℕ) → o ≡ sets l at p → b ≡ at + length p → sets o b t ≡ sets l at (p ++ t)
joined_at l at p t e h = rw (e, h) (sets-append l at p t)

pub one-stored : (l : List ℕ) (at x : ℕ) → Stored l at (x ∷ []) (set l at x) (at + 1)
one-stored l at x = record { run = refl; end = refl }

pub text-stored : {l o : List ℕ} {at r : ℕ} (text : List ℕ) → o ≡ sets l at text → r ≡ at + length text → Stored l at text o r
text-stored text e h = record { run = e; end = h }

pub length-spaced : (x : Float) → length (spaced_bits x) ≡ 17
unfolding spaced_bits
length-spaced x = ap suc (length_digits 16 16 (to_bits binary64 x))

module _ {l : List ℕ} {at : ℕ} {p o q o' : List ℕ} {b r : ℕ} where
  pub both_stored : Stored l at p o b → Stored o b q o' r → Stored l at (p ++ q) o' r
  both_stored s t =
      let e = s.end in
      let f = t.end in
      record { run = t.run ∙ joined_at l at p q s.run e; end = rw length-append (omega arith) }

-- the first text in four parts
module _ {l : List ℕ} {at : ℕ} {o t o' : List ℕ} {b r : ℕ} (p q s u : List ℕ) where
  pub parts-stored : Stored l at (p ++ (q ++ (s ++ u))) o b → Stored o b t o' r → Stored l at (p ++ (q ++ (s ++ (u ++ t)))) o' r
  parts-stored x y =
      let e : (p ++ (q ++ (s ++ u))) ++ t ≡ p ++ (q ++ (s ++ (u ++ t))) = simp append_assoc in
      rw (← e) (both_stored x y)

-- ---- where there is room, and where there is none

pub leb-shift : (at n k : ℕ) → k ≤ n → leb at (n - k) ≡ leb (at + k) n
leb-shift at n k h = go (leb (at + k) n) refl
  where
    go : (t : Bool) → leb (at + k) n ≡ t → leb at (n - k) ≡ t
    go true e = let l = leb-true (at + k) n e in le-leb at (n - k) (omega arith)
    go false e = let l = leb-false (at + k) n e in lt-leb at (n - k) (omega arith)

pub put-stored : (k : ℕ) {l : List ℕ} {at : ℕ} {text o : List ℕ} {r : ℕ} → at + k ≤ length l → Stored l at text o r → r ≤ at + k → Put k l at text o r
put-stored k {l} {at} room s h = record { roomy = λ _. s; short = λ none. absurd (omega arith); within = h }

pub put-nothing : (k : ℕ) (l : List ℕ) (at : ℕ) (text : List ℕ) → length l < at + k → Put k l at text l at
put-nothing k l at text none = record { roomy = λ room. absurd (omega arith); short = λ _. (refl, refl); within = omega arith }
