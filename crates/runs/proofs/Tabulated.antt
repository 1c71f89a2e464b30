-- A run by its numbers: its length, and each number.
-- Assumes nothing.
use Prim.Native.Nat.{ℕ, zero, suc, ◌≤◌, ◌<◌}
use mathlib.Core.Path.{◌≡◌, refl, ap, ap₂}
use mathlib.Core.List.{List, [], ◌∷◌}
use native.Mathlib.Nat.{not-suc-le-zero, le_of_suc-le-suc}
use native.Mathlib.Omega.{arith}
use lib.ListN.{length, take}
use lib.Ieee.{Float}
use Rattle.doubles.specs.Run.{at}
use Rattle.runs.specs.Tabulate.{tabulate}

pub length-tabulate : (n : ℕ) (f : ℕ → Float) → length (tabulate n f) ≡ n
length-tabulate zero f = refl
length-tabulate (suc n) f = ap suc (length-tabulate n (λ k. f (suc k)))

pub at-tabulate : (n : ℕ) (f : ℕ → Float) (i : ℕ) → i < n → at (tabulate n f) i ≡ f i
at-tabulate zero f i h = absurd (omega arith)
at-tabulate (suc n) f zero h = refl
at-tabulate (suc n) f (suc i) h = at-tabulate n (λ k. f (suc k)) i (omega arith)

pub tabulate-at : (xs : List Float) → tabulate (length xs) (at xs) ≡ xs
tabulate-at [] = refl
tabulate-at (x ∷ xs) = ap (λ (l : List Float). x ∷ l) (tabulate-at xs)

pub tabulate-cong : (n : ℕ) (f g : ℕ → Float) → ((j : ℕ) → j < n → f j ≡ g j) → tabulate n f ≡ tabulate n g
tabulate-cong zero f g h = refl
tabulate-cong (suc n) f g h = ap₂ (λ (x : Float) (l : List Float). x ∷ l) (h 0 (omega arith)) (tabulate-cong n (λ k. f (suc k)) (λ k. g (suc k)) (λ j l. h (suc j) (omega arith)))

pub tabulate-take : (n : ℕ) (xs : List Float) → n ≤ length xs → tabulate n (at xs) ≡ take n xs
tabulate-take zero xs l = refl
tabulate-take (suc n) [] l = absurd (not-suc-le-zero l)
tabulate-take (suc n) (x ∷ xs) l = ap (λ (t : List Float). x ∷ t) (tabulate-take n xs (le_of_suc-le-suc l))
