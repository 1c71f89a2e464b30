-- Runs that are cleared from a place on, and copies with +0.0 behind them.
-- Assumes nothing.
use Prim.Native.Nat.{ℕ, zero, suc, ◌-◌, ◌≤◌, ◌<◌}
use mathlib.Core.Path.{◌≡◌, refl, sym, ◌∙◌, ap, ap₂}
use mathlib.Core.List.{List, [], ◌∷◌, ◌++◌, append-nil}
use native.Mathlib.Omega.{arith}
use native.Mathlib.Nat.{not-suc-le-zero, le_of_suc-le-suc}
use lib.ListN.{length, take, drop, drop_of_length-le, length-append, length-take, length-drop}
use lib.Seq.{take_at, take_all, length-take-le}
use Rattle.std.proofs.Common.{min}
use Rattle.std.proofs.Math.Nat.{min-le_left, min-le_right}
use Rattle.std.proofs.lemmas.List.{take_min}
use lib.Ieee.{Float}
use Rattle.doubles.specs.Run.{at}
use Rattle.knots.specs.Clear.{zeros}
use Rattle.runs.specs.Tabulate.{tabulate}
use Rattle.runs.specs.Lent.{padded}

-- a front that is already there
pub front-is : (n : ℕ) (f : ℕ → Float) (d : List Float) → n ≤ length d → ((j : ℕ) → j < n → at d j ≡ f j) → d ≡ tabulate n f ++ drop n d
front-is zero f d l h = refl
front-is (suc n) f [] l h = absurd (not-suc-le-zero l)
front-is (suc n) f (x ∷ d) l h =
    ap₂ (λ (y : Float) (t : List Float). y ∷ t) (h 0 (omega arith)) (front-is n (λ k. f (suc k)) d (le_of_suc-le-suc l) (λ j b. h (suc j) (omega arith)))

-- the first place behind it
pub behind : (n : ℕ) (f : ℕ → Float) (d : List Float) → n < length d → at (tabulate n f ++ drop n d) n ≡ at d n
behind n f [] l = absurd (not-suc-le-zero l)
behind zero f (x ∷ d) l = refl
behind (suc n) f (x ∷ d) l = behind n (λ k. f (suc k)) d (le_of_suc-le-suc l)

-- the front of a run
pub front-taken : (n : ℕ) (l d xs : List Float) → length l ≡ n → xs ≡ l ++ d → take n xs ≡ l
front-taken n l d xs h e = ap (take n) e ∙ take_at l d n h

-- a run that is cleared from place n on, and one that ends before
pub cleared-behind : (n : ℕ) (xs ys : List Float) → n ≤ length xs → ys ≡ zeros (length (take (length xs - n) (drop n xs)))
    → take n xs ++ (ys ++ drop (length xs - n) (drop n xs)) ≡ take n xs ++ zeros (length xs - n)
cleared-behind n xs ys h Y =
    let long : length (take (length xs - n) (drop n xs)) ≡ length xs - n = omega (arith, length-take {A = Float}, length-drop {A = Float}) in
    let none : drop (length xs - n) (drop n xs) ≡ [] = drop_of_length-le (drop n xs) (omega (arith, length-drop {A = Float})) in
    ap (λ (t : List Float). take n xs ++ t) (ap₂ (λ (u v : List Float). u ++ v) (Y ∙ ap zeros long) none ∙ append-nil (zeros (length xs - n)))

pub none-behind : (n : ℕ) (xs : List Float) → length xs ≤ n → xs ≡ take n xs ++ zeros (length xs - n)
none-behind n xs h =
    let none : length xs - n ≡ 0 = omega arith in
    sym (ap₂ (λ (l : List Float) (k : ℕ). l ++ zeros k) (take_all n xs h) none ∙ append-nil xs)

-- a copy of the first n numbers of xs, cleared behind it
pub copied : (n : ℕ) (xs x₀ x₁ x₂ : List Float) → n ≡ min (length x₀) (length xs) → x₁ ≡ take n xs ++ drop n x₀
    → x₂ ≡ take n x₁ ++ zeros (length x₁ - n) → x₂ ≡ padded (length x₀) (take (length x₀) xs)
unfolding padded
copied n xs x₀ x₁ x₂ N E F =
    F ∙ (ap₂ (λ (y : List Float) (i : ℕ). y ++ zeros (i - n)) (front-taken n (take n xs) (drop n x₀) x₁ long E) whole
    ∙ (ap (λ (k : ℕ). take n xs ++ zeros (length x₀ - k)) (sym long) ∙ ap (λ (y : List Float). y ++ zeros (length x₀ - length y)) same))
  where
    long : length (take n xs) ≡ n
    long = length-take-le n xs (omega (arith, min-le_right))

    whole : length x₁ ≡ length x₀
    whole = let e = ap length E in omega (arith, long, min-le_left, length-append {A = Float}, length-drop {A = Float})

    same : take n xs ≡ take (length x₀) xs
    same = ap (λ (k : ℕ). take k xs) N ∙ take_min (length x₀) xs

-- a run that has room is copied whole
pub copied-whole : (n : ℕ) (xs : List Float) → length xs ≤ n → padded n (take n xs) ≡ padded n xs
copied-whole n xs l = ap (padded n) (take_all n xs l)
