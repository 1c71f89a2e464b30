-- The rule of the table of classes: its entries are the definition's values, listed by number, and a number above has no class.
-- Assumes nothing.
use Prim.Native.Nat.{ℕ, zero, suc, ◌+◌, ◌<◌}
use mathlib.Core.Bool.{Bool, true, ◌&&◌}
use mathlib.Core.Path.{◌≡◌, refl, sym, ◌∙◌, ap}
use mathlib.Core.List.{List, [], ◌∷◌}
use native.Mathlib.Nat.{add-zero, zero-add, add-suc, suc-add, not-suc-le-zero, le_of_suc-le-suc}
use native.Mathlib.Omega.{arith}
use lib.Dec.{leb}
use lib.ListN.{get_or}
use borrow.Author.Tests.{leb-true, ne_eqb}
use Rattle.knots.specs.Refusal.{Reason, row, reasons, class_in, class_of, no-class}
use Rattle.knots.proofs.Below.{and_left, and_right}

-- k values of f, from i on: a table that is equal to it as antt computes both has its rule at every entry
unfoldable pub listed : (ℕ → ℕ) → ℕ → ℕ → List ℕ
listed f zero i = []
listed f (suc k) i = f i ∷ listed f k (suc i)

module _ (f : ℕ → ℕ) where
  from : (k i j : ℕ) → j < k → get_or (listed f k i) j 0 ≡ f (i + j)
  unfolding listed
  from zero i j l = absurd (not-suc-le-zero l)
  from (suc k) i zero l = ap f (sym (add-zero i))
  from (suc k) i (suc j) l = from k (suc i) j (le_of_suc-le-suc l) ∙ ap f (suc-add i j ∙ sym (add-suc i j))

  pub entry : (k j : ℕ) → j < k → get_or (listed f k 0) j 0 ≡ f j
  entry k j l = from k 0 j l ∙ ap f (zero-add j)

-- every number of the rows is at most b
abbrev up_to : ℕ → List Reason → Bool
up_to b [] = true
up_to b (r ∷ rs) = leb (row r).0 b && up_to b rs

past : (b n : ℕ) (rs : List Reason) → b < n → up_to b rs ≡ true → class_in rs n ≡ no-class
past b n [] l t = refl
past b n (r ∷ rs) l t =
    let h = leb-true (row r).0 b (and_left (leb (row r).0 b) (up_to b rs) t) in
    simp (ne_eqb n (row r).0 (λ e. omega arith)) (past b n rs l (and_right (leb (row r).0 b) (up_to b rs) t))

pub above : (n : ℕ) → 54 < n → no-class ≡ class_of n
unfolding class_of
above n l = sym (past 54 n reasons l refl)
