-- How many places pass a test, and whether all numbers of a run do.
-- Assumes nothing.
use Prim.Native.Nat.{ℕ, zero, suc, ◌+◌, ◌≤◌}
use mathlib.Core.Bool.{Bool, true, false, ◌&&◌}
use mathlib.Core.Path.{◌≡◌, refl, sym, ◌∙◌, ap}
use native.Mathlib.Omega.{arith}
use native.Mathlib.Numerals.{add-one}
use mathlib.Core.List.{List, [], ◌∷◌}
use lib.ListN.{length}
use lib.Ieee.{Float}
use Rattle.std.specs.List.{list_all}
use Rattle.doubles.specs.Run.{at}
use Rattle.knots.specs.Below.{all_below}
use Rattle.edits.specs.Counts.{bit, count_below}

pub bit_le : (b : Bool) → bit b ≤ 1
bit_le true = omega arith
bit_le false = omega arith

module _ (f : ℕ → Bool) where
  pub count-le : (i : ℕ) → count_below f i ≤ i
  unfolding count_below
  count-le zero = omega arith
  count-le (suc i) = omega (arith, count-le i, bit_le (f i))

  pub count-more : (i n m : ℕ) → n ≡ count_below f i → m ≡ n + bit (f i) → m ≡ count_below f (i + 1)
  unfolding count_below
  count-more i n m e g = rw add-one (g ∙ ap (λ (k : ℕ). k + bit (f i)) e)

  all-first : (n : ℕ) → all_below f (suc n) ≡ (f 0 && all_below (λ j. f (suc j)) n)
  unfolding all_below
  all-first zero = both (f 0)
    where
      both : (b : Bool) → (true && b) ≡ (b && true)
      both true = refl
      both false = refl
  all-first (suc n) = ap (λ (b : Bool). b && f (suc n)) (all-first n) ∙ and_assoc (f 0)
    where
      and_assoc : (x : Bool) → ((x && all_below (λ j. f (suc j)) n) && f (suc n)) ≡ (x && (all_below (λ j. f (suc j)) n && f (suc n)))
      and_assoc true = refl
      and_assoc false = refl

-- a test of each number of a run
module _ (test : Float → Bool) where
  pub all-within : (xs : List Float) → list_all test xs ≡ all_below (λ j. test (at xs j)) (length xs)
  unfolding all_below
  all-within [] = refl
  all-within (x ∷ xs) = ap (λ (b : Bool). test x && b) (all-within xs) ∙ sym (all-first (λ j. test (at (x ∷ xs) j)) (length xs))
