-- Sums and largest values, one after the other.
-- Assumes nothing.
use Prim.Native.Nat.{ℕ, zero, suc, ◌+◌, ◌<◌}
use mathlib.Core.Bool.{Bool}
use mathlib.Core.Path.{◌≡◌, refl, ◌∙◌, ap, ap₂}
use mathlib.Core.List.{List}
use native.Mathlib.Omega.{arith}
use native.Mathlib.Numerals.{add-one}
use lib.Ieee.{Float}
use Rattle.evaluate.specs.Controls.{no_sums, plus, sums_from, term_of, row_term, row_sums}
use Rattle.runs.specs.Scale.{weight_of}
use Rattle.runs.specs.Point.{point_of}
use Rattle.runs.specs.declared.vector.Vector.{Vector}
use Rattle.evaluate.specs.declared.sums.Sums.{Sums}

pub sums_none : (s : Sums) (f : ℕ → Sums) → s ≡ sums_from s f 0
unfolding sums_from
sums_none s f = refl

pub sums-more : (s : Sums) (f : ℕ → Sums) (n : ℕ) (a t r : Sums) → a ≡ sums_from s f n → t ≡ f n → r ≡ plus a t → r ≡ sums_from s f (n + 1)
unfolding sums_from
sums-more s f n a t r e h q = rw add-one (q ∙ ap₂ plus e h)

pub sums-cong : (s : Sums) (f g : ℕ → Sums) (n : ℕ) → ((j : ℕ) → j < n → f j ≡ g j) → sums_from s f n ≡ sums_from s g n
unfolding sums_from
sums-cong s f g zero h = refl
sums-cong s f g (suc n) h = ap₂ plus (sums-cong s f g n (λ j b. h j (omega arith))) (h n (omega arith))

module _ (two : Bool) (ps : List Float) (g : Bool) (ws : List Float) (m : Float) (b : ℕ) where
  pub term_is : (j : ℕ) (f : ℕ → Float) (o₀ o q : Vector) (w : Float) → o ≡ o₀ → q ≡ point_of ps (b + j) → w ≡ weight_of g ws m (b + j)
      → (t : Sums) → t ≡ term_of two o q w (f j) → t ≡ row_term two ps g ws m o₀ b f j
  unfolding row_term
  term_is j f o₀ o q w O Q W t e = e ∙ (ap₂ (λ (x y : Vector). term_of two x y w (f j)) O Q ∙ ap (λ (x : Float). term_of two o₀ (point_of ps (b + j)) x (f j)) W)

  -- a row's sums over no point, and over a point more
  pub row-none : (f : ℕ → Float) → no_sums ≡ row_sums two ps g ws m b f 0
  unfolding row_sums
  row-none f = sums_none no_sums (row_term two ps g ws m (point_of ps b) b f)

  pub row_more : (j : ℕ) {o q : Vector} {w : Float} → o ≡ point_of ps b → q ≡ point_of ps (b + j) → w ≡ weight_of g ws m (b + j)
      → (f : ℕ → Float) (s t r : Sums) → s ≡ row_sums two ps g ws m b f j → t ≡ term_of two o q w (f j) → r ≡ plus s t → r ≡ row_sums two ps g ws m b f (j + 1)
  unfolding row_sums
  row_more j {o} {q} {w} O Q W f s t r S T R =
      sums-more no_sums (row_term two ps g ws m (point_of ps b) b f) j s t r S (term_is j f (point_of ps b) o q w O Q W t T) R

  -- the sums depend only on the basis functions that they use
  pub row-cong : (f h : ℕ → Float) (n : ℕ) → ((j : ℕ) → j < n → f j ≡ h j) → row_sums two ps g ws m b f n ≡ row_sums two ps g ws m b h n
  unfolding row_sums row_term
  row-cong f h n e =
      sums-cong no_sums (row_term two ps g ws m (point_of ps b) b f) (row_term two ps g ws m (point_of ps b) b h) n
      (λ j l. ap (term_of two (point_of ps b) (point_of ps (b + j)) (weight_of g ws m (b + j))) (e j l))
