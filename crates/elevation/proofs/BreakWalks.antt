-- The walk over the breaks: one step, how many there are, and how many of them are full.
-- Assumes nothing.
use Prim.Native.Nat.{ℕ, zero, suc, ◌+◌, ◌-◌, ◌≤◌, ◌<◌}
use mathlib.Core.Bool.{Bool, true, false, cond}
use mathlib.Core.Path.{◌≡◌, refl, sym, ◌∙◌, ap}
use mathlib.Core.List.{List, [], ◌∷◌}
use native.Mathlib.Omega.{arith}
use native.Mathlib.Numerals.{add-one}
use lib.ListN.{length}
use Rattle.std.specs.List.{filter}
use lib.Ieee.{Float, eq}
use Rattle.doubles.specs.Run.{at}
use Rattle.edits.specs.Counts.{bit}
use Rattle.edits.proofs.CountLoop.{bit_le}
use Rattle.elevation.specs.Breaks.{breaks_from, breaks_of, is_full, full_count}

-- ---- the breaks from place k on, by the knot at k
module _ (ks : List Float) (n k : ℕ) where
  abbrev pub left : List Float
  left = breaks_from ks k (n - k)

  step_of : k < n → suc (n - (k + 1)) ≡ n - k
  step_of l = omega arith

  pub left-same : k < n → eq (at ks (k - 1)) (at ks k) ≡ true → left ≡ breaks_from ks (k + 1) (n - (k + 1))
  unfolding breaks_from
  left-same l e = ap (breaks_from ks k) (sym (step_of l)) ∙ simp e (ap (λ (i : ℕ). breaks_from ks i (n - (k + 1))) (sym (add-one k)))

  pub left-more : k < n → eq (at ks (k - 1)) (at ks k) ≡ false → left ≡ at ks k ∷ breaks_from ks (k + 1) (n - (k + 1))
  unfolding breaks_from
  left-more l e = ap (breaks_from ks k) (sym (step_of l)) ∙ simp e (ap (λ (i : ℕ). at ks k ∷ breaks_from ks i (n - (k + 1))) (sym (add-one k)))

  pub left-none : n ≤ k → left ≡ []
  unfolding breaks_from
  left-none l = let z : n - k ≡ 0 = omega arith in ap (breaks_from ks k) z

-- ---- how many
breaks-case : (ks : List Float) (i m : ℕ) (b : Bool) → eq (at ks (i - 1)) (at ks i) ≡ b → length (breaks_from ks (suc i) m) ≤ m → length (breaks_from ks i (suc m)) ≤ suc m
unfolding breaks_from
breaks-case ks i m true e h = simp e (omega arith)
breaks-case ks i m false e h = simp e (omega arith)

pub breaks-le : (ks : List Float) (i m : ℕ) → length (breaks_from ks i m) ≤ m
unfolding breaks_from
breaks-le ks i zero = omega arith
breaks-le ks i (suc m) = breaks-case ks i m (eq (at ks (i - 1)) (at ks i)) refl (breaks-le ks (suc i) m)

pub full-le : (p : ℕ) (ks ts : List Float) → full_count p ks ts ≤ length ts
unfolding full_count
full-le p ks [] = omega arith
full-le p ks (t ∷ ts) = omega (arith, bit_le (is_full p ks t), full-le p ks ts)

pub full-kept : (p : ℕ) (ks ts : List Float) → length (filter (is_full p ks) ts) ≡ full_count p ks ts
unfolding full_count
full-kept p ks [] = refl
full-kept p ks (t ∷ ts) = go (is_full p ks t) (full-kept p ks ts)
  where
    go : (b : Bool) → length (filter (is_full p ks) ts) ≡ full_count p ks ts → length (cond b (t ∷ filter (is_full p ks) ts) (filter (is_full p ks) ts)) ≡ bit b + full_count p ks ts
    go true e = omega arith
    go false e = omega arith

pub breaks-few : (p n : ℕ) (ks : List Float) → p < n → length (breaks_of p n ks) + p < n
unfolding breaks_of
breaks-few p n ks l = omega (arith, breaks-le ks (p + 1) (n - (p + 1)))
