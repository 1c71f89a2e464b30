-- Runs of stores one behind the other, at any type, and stores outside a run.
-- Assumes nothing.
use Prim.Native.Nat.{ℕ, suc, ◌+◌, ◌≤◌}
use mathlib.Core.Path.{◌≡◌, refl, ◌∙◌, ap, ap₂}
use mathlib.Core.List.{List, [], ◌∷◌, ◌++◌}
use native.Mathlib.Omega.{arith}
use lib.ListN.{length, set}
use lib.Seq.{sets, set_out}
use Rattle.knots.proofs.Fill.{sets-append}

module _ {Y : Type 0} where
  -- nothing is stored outside
  pub sets-out : (vs l : List Y) (i : ℕ) → length l ≤ i → sets l i vs ≡ l
  sets-out [] l i h = refl
  sets-out (v ∷ vs) l i h = ap (λ (m : List Y). sets m (suc i) vs) (set_out l i v h) ∙ sets-out vs l (suc i) (omega arith)

  -- two runs of stores, one behind the other
  pub sets_more : (xs ys l : List Y) (i j : ℕ) → j ≡ i + length xs → sets (sets l i xs) j ys ≡ sets l i (xs ++ ys)
  sets_more xs ys l i j e = ap (λ (k : ℕ). sets (sets l i xs) k ys) e ∙ sets-append l i xs ys

  -- three
  pub sets-three : (xs ys zs l : List Y) (i j k : ℕ) → j ≡ i + length xs → k ≡ j + length ys → sets (sets (sets l i xs) j ys) k zs ≡ sets l i (xs ++ (ys ++ zs))
  sets-three xs ys zs l i j k e h = sets_more ys zs (sets l i xs) j k h ∙ sets_more xs (ys ++ zs) l i j e

  -- stores one by one
  pub stored-two : (l : List Y) (i : ℕ) (a b : Y) → set (set l i a) (i + 1) b ≡ sets l i (a ∷ b ∷ [])
  stored-two l i a b = let e : i + 1 ≡ suc i = omega arith in ap (λ (k : ℕ). set (set l i a) k b) e

  pub stored-three : (l : List Y) (i : ℕ) (a b c : Y) → set (set (set l i a) (i + 1) b) (i + 2) c ≡ sets l i (a ∷ b ∷ c ∷ [])
  stored-three l i a b c =
      let e : i + 2 ≡ suc (suc i) = omega arith in
      ap₂ (λ (m : List Y) (k : ℕ). set m k c) (stored-two l i a b) e
