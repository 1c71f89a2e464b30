-- A turn of the loop that makes a column of the table of basis functions.
-- Assumes nothing.
use Prim.Native.Nat.{ℕ, ◌+◌, ◌-◌, ◌*◌, ◌≤◌, ◌<◌}
use mathlib.Core.Path.{◌≡◌, refl, ◌∙◌, ap, ap₂}
use mathlib.Core.List.{List}
use native.Mathlib.Omega.{arith}
use native.Mathlib.Numerals.{add-one}
use borrow.Author.Count.{below_more}
use lib.ListN.{length, set, length-set}
use lib.Ieee.{Float, binary64, add, mul, div}
use Rattle.doubles.specs.Run.{at}
use Rattle.basis.specs.Basis.{cell, ColumnDone}
use Rattle.basis.proofs.Cells.{put_same, put-row, put-col}
use Rattle.exact.specs.Scheme.{width_of, share_of, carry_of, part_of}
use Rattle.basis.specs.Floats.{floats}

-- t₀ is the table as the column is begun, and t as i of its functions are there
pub record InColumn (j : ℕ) (l r : ℕ → Float) (t₀ t : List Float) (saved : Float) (i : ℕ) : Type 0 where
  pub long : length t ≡ length t₀
  pub carry : saved ≡ carry_of floats l r (λ k. cell t₀ k (j - 1)) j i
  pub column : (k : ℕ) → k < i → cell t k j ≡ part_of floats l r (λ k. cell t₀ k (j - 1)) j k
  pub widths : (k : ℕ) → k < i → cell t j k ≡ width_of floats l r j k
  pub rest : (a b : ℕ) → a < j → b < j → cell t a b ≡ cell t₀ a b

module _ (j : ℕ) (l r : ℕ → Float) (t₀ : List Float) where
  pub column-start : InColumn j l r t₀ t₀ floats.nought 0
  unfolding carry_of
  column-start = record {
    long = refl;
    carry = refl;
    column = λ k b. absurd (omega arith);
    widths = λ k b. absurd (omega arith);
    rest = λ a b A C. refl;
  }

  module _ (J : 0 < j) (top : j ≤ 64) (room : j * 65 + j < length t₀) (t : List Float) (saved : Float) (i : ℕ) (H : InColumn j l r t₀ t saved i) (lt : i < j) where
    pub column-step : (w sh : Float) → w ≡ add binary64 (r (i + 1)) (l (j - i))
        → sh ≡ div binary64 (at (set t (j * 65 + i) w) (i * 65 + j - 1)) w
        → InColumn j l r t₀ (set (set t (j * 65 + i) w) (i * 65 + j) (add binary64 saved (mul binary64 (r (i + 1)) sh))) (mul binary64 (l (j - i)) sh) (i + 1)
    unfolding width_of share_of carry_of part_of
    column-step w sh we se =
        let t' = set t (j * 65 + i) w in
        let v = add binary64 saved (mul binary64 (r (i + 1)) sh) in
        let L : length t ≡ length t₀ = H.long in
        let L' : length t' ≡ length t₀ = length-set t (j * 65 + i) w ∙ H.long in
        let f : ℕ → Float = λ k. cell t₀ k (j - 1) in
        let place : i * 65 + j - 1 ≡ i * 65 + (j - 1) = omega arith in
        let read : at t' (i * 65 + j - 1) ≡ f i =
        ap (λ (m : ℕ). at t' m) place ∙ (put-row t j i i (j - 1) w (omega arith) (omega arith) (λ e. omega arith) ∙ H.rest i (j - 1) lt (omega arith)) in
        let share : sh ≡ share_of floats l r f j i = se ∙ ap₂ (λ (a b : Float). div binary64 a b) read we in
        record {
          long = length-set t' (i * 65 + j) v ∙ L';
          carry = rw add-one (ap (λ (x : Float). mul binary64 (l (j - i)) x) share);
          column = below_more (λ k. cell (set t' (i * 65 + j) v) k j ≡ part_of floats l r f j k) i
              (λ k b. put-row t' i j k j v (omega arith) (omega arith) (λ e. omega arith) ∙ (put-row t j i k j w (omega arith) (omega arith) (λ e. omega arith) ∙ H.column k b))
              (put_same t' i j v (omega arith) ∙ ap₂ (λ (a b : Float). add binary64 a (mul binary64 (r (i + 1)) b)) H.carry share);
          widths = below_more (λ k. cell (set t' (i * 65 + j) v) j k ≡ width_of floats l r j k) i
              (λ k b. put-row t' i j j k v (omega arith) (omega arith) (λ e. omega arith) ∙ (put-col t j i j k w (omega arith) (omega arith) (λ e. omega arith) ∙ H.widths k b))
              (put-row t' i j j i v (omega arith) (omega arith) (λ e. omega arith) ∙ (put_same t j i w (omega arith) ∙ we));
          rest = λ a b A C. put-col t' i j a b v (omega arith) (omega arith) (λ e. omega arith) ∙ (put-row t j i a b w (omega arith) (omega arith) (λ e. omega arith) ∙ H.rest a b A C);
        }

  pub column-end : j ≤ 64 → j * 65 + j < length t₀ → (t : List Float) (saved : Float) → InColumn j l r t₀ t saved j → ColumnDone j l r t₀ (set t (j * 65 + j) saved)
  column-end top room t saved H = let L : length t ≡ length t₀ = H.long in record {
    long = length-set t (j * 65 + j) saved ∙ H.long;
    column = λ i b. put-row t j j i j saved (omega arith) (omega arith) (λ e. omega arith) ∙ H.column i b;
    corner = put_same t j j saved (omega arith) ∙ H.carry;
    widths = λ i b. put-col t j j j i saved (omega arith) (omega arith) (λ e. omega arith) ∙ H.widths i b;
    rest = λ a b A C. put-row t j j a b saved (omega arith) (omega arith) (λ e. omega arith) ∙ H.rest a b A C;
  }
