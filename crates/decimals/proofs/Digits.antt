-- Digits stored from the last to the first, each at its place, are the digits stored as one run.
-- Assumes nothing.
use Prim.Native.Nat.{ℕ, zero, suc, ◌+◌, ◌-◌, ◌/◌, ◌%◌, ◌≤◌, ◌<◌}
use mathlib.Core.Path.{◌≡◌, refl, sym, ◌∙◌, ap}
use mathlib.Core.List.{List, [], ◌∷◌}
use native.Mathlib.Numerals.{add-one}
use native.Mathlib.Omega.{arith}
use lib.ListN.{length, set, length-append}
use lib.Seq.{sets, set_comm}
use Rattle.knots.proofs.Fill.{sets-append}
use Rattle.decimals.specs.Text.{digit, digits}

pub length_digits : (base k n : ℕ) → length (digits base k n) ≡ k
unfolding digits
length_digits base zero n = refl
length_digits base (suc k) n = rw (length-append, length_digits base k (n / base)) (add-one k)

-- a store behind a run of stores may as well come first
set-behind : {A : Type 0} (l : List A) (a : ℕ) (xs : List A) (m : ℕ) (d : A) → a + length xs ≤ m → set (sets l a xs) m d ≡ sets (set l m d) a xs
set-behind l a [] m d h = refl
set-behind {A} l a (x ∷ xs) m d h = set-behind (set l a x) (suc a) xs m d (omega arith) ∙ ap (λ (t : List A). sets t (suc a) xs) (set_comm l a m x d (λ e. omega arith))

digits_last : (l : List ℕ) (a base k n : ℕ) → sets (set l (a + k) (digit (n % base))) a (digits base k (n / base)) ≡ sets l a (digits base (suc k) n)
unfolding digits
digits_last l a base k n =
    let ds = digits base k (n / base) in
    let d = digit (n % base) in
    let long : length ds ≡ k = length_digits base k (n / base) in
    sym (set-behind l a ds (a + k) d (omega arith)) ∙ rw long at (sets-append l a ds (d ∷ []))

-- what is left to store, after the last of i digits is
pub digits-left : (l : List ℕ) (a base i n : ℕ) → 0 < i → sets (set l (a + (i - 1)) (digit (n % base))) a (digits base (i - 1) (n / base)) ≡ sets l a (digits base i n)
digits-left l a base zero n h = absurd (omega arith)
digits-left l a base (suc k) n h =
    let e : suc k - 1 ≡ k = omega arith in
    rw e (digits_last l a base k n)

-- nothing is left
pub digits-none : (l : List ℕ) (a base i n : ℕ) → i ≡ 0 → sets l a (digits base i n) ≡ l
unfolding digits
digits-none l a base i n e = rw e
