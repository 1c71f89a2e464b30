-- What is read from rows of a run: points, weights, knots, and what the weights are divided by.
-- Assumes nothing.
use Prim.Native.Nat.{ℕ, zero, suc, ◌+◌, ◌-◌, ◌*◌, ◌/◌, ◌%◌, ◌≤◌, ◌<◌}
use mathlib.Core.Bool.{Bool, true, false}
use mathlib.Core.Path.{◌≡◌, refl, sym, ◌∙◌, ap, ap₂, subst}
use mathlib.Core.List.{List}
use native.Mathlib.Omega.{arith}
use lib.ListN.{length, take, drop}
use lib.Seq.{get_or-take, get_or-drop}
use borrow.Author.Tests.{le-leb, lt-leb}
use lib.Ieee.{Float, nan, binary64, div, of_bits}
use Rattle.doubles.specs.Run.{at}
use Rattle.doubles.specs.Value.{zero+, one+}
use Rattle.runs.proofs.Tabulated.{length-tabulate, at-tabulate}
use Rattle.runs.specs.Larger.{larger, largest_from}
use Rattle.runs.specs.Point.{point_of}
use Rattle.runs.specs.declared.vector.Vector.{Vector}
use Rattle.edits.specs.Control.{vector_of}
use Rattle.edits.specs.Counts.{largest_of}
use Rattle.edits.specs.Rows.{given, scale_of, axis}
use Rattle.interval.proofs.Nans.{zero_by_zero}
use Rattle.runs.proofs.Outside.{at_out}
use Rattle.edits.specs.Work.{scale_in, knots_from, points_from, weights_from}
use Rattle.edits.specs.Passes.{row_by, row_of}

-- ---- what is read from rows
module _ (g : Bool) (n : ℕ) (xs : List Float) where
  pub row-axis : (i c : ℕ) → c < 3 → at xs (i * 4 + c) ≡ axis c (vector_of (row_of g xs i))
  row-axis i zero l = let z : i * 4 + 0 ≡ i * 4 = omega arith in ap (at xs) z
  row-axis i (suc zero) l = refl
  row-axis i (suc (suc zero)) l = refl
  row-axis i (suc (suc (suc c))) l = absurd (omega arith)

  pub point_at : (i c : ℕ) → i < n → c < 3 → at (points_from n xs) (i * 3 + c) ≡ at xs (i * 4 + c)
  point_at i c l b =
      let e : (i * 3 + c) / 3 * 4 + (i * 3 + c) % 3 ≡ i * 4 + c = omega arith in
      at-tabulate (n * 3) (λ j. at xs (j / 3 * 4 + j % 3)) (i * 3 + c) (omega arith) ∙ ap (at xs) e

  pub row-point : (i : ℕ) → i < n → point_of (points_from n xs) i ≡ vector_of (row_of g xs i)
  row-point i l =
      let z : i * 4 + 0 ≡ i * 4 = omega arith in
      vector-is _ _ _ (at xs (i * 4)) (at xs (i * 4 + 1)) (at xs (i * 4 + 2)) (point_at i 0 l (omega arith) ∙ ap (at xs) z) (point_at i 1 l (omega arith)) (point_at i 2 l (omega arith))
    where
      vector-is : (x y z x' y' z' : Float) → x ≡ x' → y ≡ y' → z ≡ z' → ◌≡◌ {A = Vector} (record { x = x; y = y; z = z }) (record { x = x'; y = y'; z = z' })
      vector-is x y z x' y' z' a b c = rw (a, b, c)

pub row-weight : (n : ℕ) (xs : List Float) (i : ℕ) → i < n → at (weights_from true n xs) i ≡ at xs (i * 4 + 3)
row-weight n xs i l = at-tabulate n (λ j. at xs (j * 4 + 3)) i l

pub knot-from : (a p n : ℕ) (xs : List Float) (j : ℕ) → j < n + p + 1 → at (knots_from a p n xs) j ≡ at xs (a + j)
knot-from a p n xs j l = get_or-take (n + p + 1) _ j nan l ∙ get_or-drop a xs j nan

-- ---- the largest weight
largest-cong : (m : Float) (f h : ℕ → Float) (n : ℕ) → ((i : ℕ) → i < n → f i ≡ h i) → largest_from m f n ≡ largest_from m h n
unfolding largest_from
largest-cong m f h zero e = refl
largest-cong m f h (suc n) e = ap₂ larger (largest-cong m f h n (λ i l. e i (omega arith))) (e n (omega arith))

pub scale-weighted : (n : ℕ) (xs : List Float) (r : Float) → r ≡ largest_from zero+ (λ i. at xs (i * 4 + 3)) n → r ≡ scale_of true (weights_from true n xs)
unfolding scale_of largest_of
scale-weighted n xs r e =
    e ∙ (largest-cong zero+ (λ i. at xs (i * 4 + 3)) (at (weights_from true n xs)) n (λ i l. sym (row-weight n xs i l))
    ∙ ap (largest_from zero+ (at (weights_from true n xs))) (sym (length-tabulate n _)))

pub scale-short : (n : ℕ) (g : Bool) (xs : List Float) → length xs < n * 4 → one+ ≡ scale_in n g xs
unfolding scale_in
scale-short n g xs l = simp (lt-leb (n * 4) (length xs) l)

pub scale-fits : (n : ℕ) (g : Bool) (xs : List Float) → n * 4 ≤ length xs → scale_in n g xs ≡ scale_of g (weights_from g n xs)
unfolding scale_in
scale-fits n g xs l = simp (le-leb (n * 4) (length xs) l)

pub scale-true : (n : ℕ) (g : Bool) (xs : List Float) → n * 4 ≤ length xs → g ≡ true → {r : Float} → r ≡ largest_from zero+ (λ i. at xs (i * 4 + 3)) n → r ≡ scale_in n g xs
scale-true n g xs l e {r} h =
    subst (λ (b : Bool). r ≡ scale_of b (weights_from b n xs)) (sym e) (scale-weighted n xs r h) ∙ sym (scale-fits n g xs l)

pub scale-false : (n : ℕ) (g : Bool) (xs : List Float) → n * 4 ≤ length xs → g ≡ false → one+ ≡ scale_in n g xs
unfolding scale_of
scale-false n g xs l e = subst (λ (b : Bool). one+ ≡ scale_of b (weights_from b n xs)) (sym e) refl ∙ sym (scale-fits n g xs l)

-- ---- a row by its numbers, and one that has none inside
pub rows-by : (g : Bool) (xs : List Float) (i : ℕ) {x y z w : Float} → x ≡ at xs (i * 4) → y ≡ at xs (i * 4 + 1) → z ≡ at xs (i * 4 + 2) → w ≡ at xs (i * 4 + 3) → row_by g x y z w ≡ row_of g xs i
rows-by g xs i a b c d = rw (a, b, c, d)

pub row_out : (g : Bool) (xs : List Float) (i : ℕ) → length xs ≤ i
    → row_by g (div binary64 (of_bits binary64 0) (of_bits binary64 0)) (div binary64 (of_bits binary64 0) (of_bits binary64 0)) (div binary64 (of_bits binary64 0) (of_bits binary64 0))
    (div binary64 (of_bits binary64 0) (of_bits binary64 0)) ≡ row_of g xs i
row_out g xs i l = rows-by g xs i (none (i * 4) (omega arith)) (none (i * 4 + 1) (omega arith)) (none (i * 4 + 2) (omega arith)) (none (i * 4 + 3) (omega arith))
  where
    none : (j : ℕ) → length xs ≤ j → div binary64 (of_bits binary64 0) (of_bits binary64 0) ≡ at xs j
    none j b = zero_by_zero ∙ sym (at_out xs j b)

-- ---- a row that is lent alone
pub part_at : (xs : List Float) (i c : ℕ) → c < 4 → at (take (i * 4 + 4 - i * 4) (drop (i * 4) xs)) c ≡ at xs (i * 4 + c)
part_at xs i c b = get_or-take (i * 4 + 4 - i * 4) (drop (i * 4) xs) c nan (omega arith) ∙ get_or-drop (i * 4) xs c nan

pub row-part : (g : Bool) (xs : List Float) (i : ℕ) → row_of g (take (i * 4 + 4 - i * 4) (drop (i * 4) xs)) 0 ≡ row_of g xs i
row-part g xs i =
    let z : i * 4 + 0 ≡ i * 4 = omega arith in
    rows-by g xs i (part_at xs i 0 (omega arith) ∙ ap (at xs) z) (part_at xs i 1 (omega arith)) (part_at xs i 2 (omega arith)) (part_at xs i 3 (omega arith))

-- ---- room for weights
pub given-room : (g : Bool) (m l : ℕ) → given g m ≤ l → g ≡ true → m ≤ l
given-room true m l h e = h
given-room false m l h e = let z : ◌≡◌ {A = ℕ} 0 1 = cc in absurd (omega arith)

pub given-fits : (g : Bool) (m l : ℕ) → (g ≡ true → l ≡ m) → given g m ≤ l
given-fits true m l h = let e = h refl in omega arith
given-fits false m l h = omega arith
