-- Signed places that are made of small unsigned numbers: each signed step is the whole number that it says, and one that is not negative is cast back.
-- Assumes nothing.
use Prim.Native.Nat.{ℕ, zero, suc, ◌+◌, ◌-◌, ◌^◌, ◌≤◌, ◌<◌}
use mathlib.Core.Bool.{Bool, true, false, cond}
use mathlib.Core.Path.{◌≡◌, sym, ◌∙◌, ap, ap₂, subst}
use mathlib.Core.Logic.{inl, inr}
use native.Mathlib.Omega.{arith}
use lib.Dec.{T}
use lib.IntN.{ℤ, pos, negsuc, ◌+ℤ◌, ◌-ℤ◌, nat_abs}
use lib.Signed.{non_neg, le_z}
use mir.Syntax.{w64}
use mir.Val.{Fits, SFits, of_z, to_z}
use mir.Facts.{to_z-of_z, to_z_pos}
use borrow.Author.Tests.{lt-ltb, le-ltb, leb-true, leb-false}
use Rattle.runs.proofs.Cases.{lt-or-ge}

pub diff-pos : (a b : ℕ) → b ≤ a → pos a -ℤ pos b ≡ pos (a - b)
diff-pos a zero l = ap pos (omega arith)
diff-pos a (suc b) l = ap (λ (t : Bool). cond t (negsuc (suc b - suc a)) (pos (a - suc b))) (le-ltb a (suc b) l)

pub diff-neg : (a b : ℕ) → a < b → pos a -ℤ pos b ≡ negsuc (b - suc a)
diff-neg a zero l = absurd (omega arith)
diff-neg a (suc b) l = ap (λ (t : Bool). cond t (negsuc (suc b - suc a)) (pos (a - suc b))) (lt-ltb a (suc b) l)

neg_sum : (a b : ℕ) → suc a ≤ b → negsuc a +ℤ pos b ≡ pos (b - suc a)
neg_sum a b l = ap (λ (t : Bool). cond t (negsuc (suc a - suc b)) (pos (b - suc a))) (le-ltb b (suc a) l)

pub read : (n : ℕ) → n ≤ 64 → to_z w64 n ≡ pos n
read n l = to_z_pos w64 (small n l)
  where
    small : (n : ℕ) → n ≤ 64 → n < 2 ^ 63
    small n l = omega arith

pub sfits_pos : (n : ℕ) → n ≤ 128 → SFits w64 (pos n)
sfits_pos n l = record { sfits = omega arith }

pub sfits_neg : (n : ℕ) → n ≤ 128 → SFits w64 (negsuc n)
sfits_neg n l = record { sfits = omega arith }

module _ (r k : ℕ) (R : r ≤ 64) (K : k ≤ 64) where
  -- r - k at the machine
  pub start : ℤ
  start = to_z w64 r -ℤ to_z w64 k

  pub start_up : k ≤ r → to_z w64 r -ℤ to_z w64 k ≡ pos (r - k)
  start_up l = ap₂ (λ (a b : ℤ). a -ℤ b) (read r R) (read k K) ∙ diff-pos r k l

  pub start-down : r < k → to_z w64 r -ℤ to_z w64 k ≡ negsuc (k - suc r)
  start-down l = ap₂ (λ (a b : ℤ). a -ℤ b) (read r R) (read k K) ∙ diff-neg r k l

  pub start_fits : SFits w64 (to_z w64 r -ℤ to_z w64 k)
  start_fits = elim (lt-or-ge r k) [
    | inl l ↦ subst (λ (z : ℤ). SFits w64 z) (sym (start-down l)) (sfits_neg (k - suc r) (omega arith))
    | inr g ↦ subst (λ (z : ℤ). SFits w64 z) (sym (start_up g)) (sfits_pos (r - k) (omega arith))
  ]

  pub back : to_z w64 (of_z w64 (to_z w64 r -ℤ to_z w64 k)) ≡ to_z w64 r -ℤ to_z w64 k
  back = to_z-of_z start_fits

  -- r - k + j, where that is not negative
  pub place : (j : ℕ) → j ≤ 64 → k ≤ r + j → to_z w64 (of_z w64 (to_z w64 r -ℤ to_z w64 k)) +ℤ to_z w64 j ≡ pos (r + j - k)
  place j J h = ap₂ (λ (a b : ℤ). a +ℤ b) back (read j J) ∙ elim (lt-or-ge r k) [
    | inl l ↦ ap (λ (z : ℤ). z +ℤ pos j) (start-down l) ∙ (neg_sum (k - suc r) j (omega arith) ∙ ap pos (omega arith))
    | inr g ↦ ap (λ (z : ℤ). z +ℤ pos j) (start_up g) ∙ ap pos (omega arith)
  ]

  -- the test r - k >= -1, and r - k negated where it fails
  pub low-place : le_z (negsuc 0) (to_z w64 (of_z w64 (to_z w64 r -ℤ to_z w64 k))) ≡ true → k ≤ r + 1
  low-place t = elim (lt-or-ge r k) [
    | inl l ↦ omega (arith, leb-true (k - suc r) 0 (sym (ap (λ (z : ℤ). le_z (negsuc 0) z) (back ∙ start-down l)) ∙ t))
    | inr g ↦ omega arith
  ]

  pub high-place : le_z (negsuc 0) (to_z w64 (of_z w64 (to_z w64 r -ℤ to_z w64 k))) ≡ false → r + 1 < k
  high-place t = elim (lt-or-ge r k) [
    | inl l ↦ omega (arith, leb-false (k - suc r) 0 (sym (ap (λ (z : ℤ). le_z (negsuc 0) z) (back ∙ start-down l)) ∙ t))
    | inr g ↦ absurd (never (sym (ap (λ (z : ℤ). le_z (negsuc 0) z) (back ∙ start_up g)) ∙ t))
  ]
    where
      never : true ≡ false → ⊥
      never e = let z : ◌≡◌ {A = ℕ} 0 1 = cc in omega arith

  pub negated : r < k → pos 0 -ℤ to_z w64 (of_z w64 (to_z w64 r -ℤ to_z w64 k)) ≡ pos (k - r)
  negated l = ap (λ (z : ℤ). pos 0 -ℤ z) (back ∙ start-down l) ∙ ap pos (omega arith)

-- a machine number that is a small whole number is cast back to it
module _ (z : ℤ) (m : ℕ) (e : z ≡ pos m) (M : m ≤ 128) where
  pub holds : to_z w64 (of_z w64 z) ≡ pos m
  holds = to_z-of_z (subst (λ (y : ℤ). SFits w64 y) (sym e) (sfits_pos m M)) ∙ e

  pub cast-back : T (non_neg (to_z w64 (of_z w64 z))) × Fits w64 (nat_abs (to_z w64 (of_z w64 z)))
  cast-back = subst (λ (y : ℤ). T (non_neg y) × Fits w64 (nat_abs y)) (sym holds) (tt, record { fits = omega arith })

  pub cast_is : nat_abs (to_z w64 (of_z w64 z)) ≡ m
  cast_is = ap nat_abs holds
