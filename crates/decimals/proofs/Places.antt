-- The figures of a run are the digits of its number: how many it has, and what is written of them.
-- Assumes nothing.
use Prim.Native.Nat.{ℕ, zero, suc, ◌+◌, ◌-◌, ◌*◌, ◌/◌, ◌%◌, ◌^◌, ◌≤◌, ◌<◌}
use mathlib.Core.Path.{◌≡◌, refl, sym, ◌∙◌, ap}
use mathlib.Core.List.{List, [], ◌∷◌}
use native.Mathlib.Nat.{div-one, zero-div, pow-succ', pow-suc, div-div-eq-div-mul, div-lt_iff_lt-mul, le-div_iff_mul-le}
use native.Mathlib.Numerals.{add-one}
use native.Mathlib.Omega.{arith}
use lib.ListN.{get_or, set, replicate}
use lib.Seq.{sets}
use borrow.Author.Tests.{lt-ltb, le-ltb}
use Rattle.decimals.specs.Text.{digit, digits, width}
use Rattle.decimals.specs.Figures.{number, Figures}
use Rattle.decimals.proofs.Digits.{digits-left}

pub ten-pos : (k : ℕ) → 0 < 10 ^ k
ten-pos zero = omega arith
ten-pos (suc k) = let h = ten-pos k in rw pow-succ' (omega arith)

pub number-zeros : (n : ℕ) → number (replicate n 0) ≡ 0
unfolding number
number-zeros zero = refl
number-zeros (suc n) = omega (arith, number-zeros n)

pub zeros-figures : (n : ℕ) → Figures (replicate n 0)
zeros-figures zero i = omega arith
zeros-figures (suc n) zero = omega arith
zeros-figures (suc n) (suc i) = zeros-figures n i

-- the figure at a place
pub place : (run : List ℕ) (j : ℕ) → Figures run → number run / 10 ^ j % 10 ≡ get_or run j 0
unfolding number
place [] j fs = rw zero-div
place (d ∷ ds) zero fs = let h = fs 0 in rw div-one (omega arith)
place (d ∷ ds) (suc j) fs =
    let h = fs 0 in
    let one : (d + 10 * number ds) / 10 ≡ number ds = omega arith in
    rw (pow-succ', ← div-div-eq-div-mul, one) (place ds j (λ i. fs (suc i)))

-- ---- how many figures a number has

pub nothing-there : (run : List ℕ) (w : ℕ) → Figures run → 0 < w → number run < 10 ^ w → get_or run (w - 1) 0 ≡ 0 → number run < 10 ^ (w - 1)
nothing-there run zero fs h small e = absurd (omega arith)
nothing-there run (suc j) fs h small e =
    let p = ten-pos j in
    let last : suc j - 1 ≡ j = omega arith in
    let d : number run / 10 ^ j % 10 ≡ 0 = place run j fs ∙ rw last at e in
    let few : number run / 10 ^ j < 10 = (div-lt_iff_lt-mul p).1 (rw pow-succ' at small) in
    let none : number run / 10 ^ j < 1 = omega arith in
    rw last (omega (arith, (div-lt_iff_lt-mul p).0 none))

pub something-there : (run : List ℕ) (w : ℕ) → Figures run → (get_or run w 0 ≡ 0 → ⊥) → 10 ^ w ≤ number run
something-there run w fs h =
    let p = ten-pos w in
    let d = place run w fs in
    let some : 1 ≤ number run / 10 ^ w = at_least (number run / 10 ^ w) (λ e. h (sym d ∙ rw e)) in
    omega (arith, (le-div_iff_mul-le p).0 some)
  where
    at_least : (n : ℕ) → (n ≡ 0 → ⊥) → 1 ≤ n
    at_least zero h = absurd (h refl)
    at_least (suc n) h = omega arith

-- a number of j + 1 digits, one at least
pub width_is : (k j n : ℕ) → j ≤ k → n < 10 ^ suc j → (0 < j → 10 ^ j ≤ n) → width k n ≡ suc j
unfolding width
width_is zero zero n h small big = refl
width_is (suc k) zero n h small big = rw (lt-ltb n 10 (omega arith))
width_is zero (suc j) n h small big = absurd (omega arith)
width_is (suc k) (suc j) n h small big =
    let p = ten-pos j in
    let b = rw pow-succ' at (big (omega arith)) in
    let s = rw pow-succ' at small in
    rw (le-ltb n 10 (omega arith)) (ap suc (width_is k j (n / 10) (omega arith) (omega arith) (λ q. omega arith)))

-- ---- what is written

module _ (l : List ℕ) (a : ℕ) (run : List ℕ) (fs : Figures run) where
  -- what is left to store, after the figure at j is
  pub figure-left : (i j : ℕ) → 0 < i → sets (set l (a + (i - 1)) (48 + get_or run j 0)) a (digits 10 (i - 1) (number run / 10 ^ (j + 1))) ≡ sets l a (digits 10 i (number run / 10 ^ j))
  unfolding digit
  figure-left i j h =
      let n = number run / 10 ^ j in
      let d : n % 10 ≡ get_or run j 0 = place run j fs in
      let text : digit (n % 10) ≡ 48 + get_or run j 0 = rw d (rw (lt-ltb (get_or run j 0) 10 (fs j))) in
      let rest : n / 10 ≡ number run / 10 ^ (j + 1) = div-div-eq-div-mul (number run) (10 ^ j) 10 ∙ rw (add-one, pow-suc) in
      rw (← text, ← rest) (digits-left l a 10 i n h)
