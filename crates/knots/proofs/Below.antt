-- A test over every place below a bound: what a loop that stops at the first failure has shown, and where it stopped.
-- Assumes nothing.
use Prim.Native.Nat.{ℕ, zero, suc, ◌+◌, ◌≤◌, ◌<◌}
use mathlib.Core.Bool.{Bool, true, false, ◌&&◌, cond, true≢false}
use mathlib.Core.Path.{◌≡◌, refl, sym, ◌∙◌, ap, ap₂, subst}
use mathlib.Core.Logic.{⊎_elim}
use native.Mathlib.Nat.{not-suc-le-zero, le_of_suc-le-suc, eq-or-lt_of_le}
use native.Mathlib.Numerals.{add-one}
use native.Mathlib.Omega.{arith}
use Rattle.knots.specs.Below.{all_below, off_at}

pub and-true : (a b : Bool) → a ≡ true → b ≡ true → (a && b) ≡ true
and-true true b p q = q
and-true false b p q = p

pub and_left : (a b : Bool) → (a && b) ≡ true → a ≡ true
and_left true b p = refl
and_left false b p = p

pub and_right : (a b : Bool) → (a && b) ≡ true → b ≡ true
and_right true b p = p
and_right false b p = cc

pub and-false-l : (a b : Bool) → a ≡ false → (a && b) ≡ false
and-false-l true b p = cc
and-false-l false b p = refl

pub and_false_r : (a b : Bool) → b ≡ false → (a && b) ≡ false
and_false_r true b p = p
and_false_r false b p = refl

pub and-rest : (a b : Bool) → a ≡ true → (a && b) ≡ false → b ≡ false
and-rest true b p q = q
and-rest false b p q = cc

module _ (f : ℕ → Bool) where
  pub all_none : all_below f 0 ≡ true
  unfolding all_below
  all_none = refl

  pub all_more : (i : ℕ) → all_below f i ≡ true → f i ≡ true → all_below f (i + 1) ≡ true
  unfolding all_below
  all_more i a h = rw add-one (and-true (all_below f i) (f i) a h)

  pub all-step : (i : ℕ) (b c : Bool) → b ≡ all_below f i → c ≡ f i → (b && c) ≡ all_below f (i + 1)
  unfolding all_below
  all-step i b c p q = rw add-one (ap (λ (x : Bool). x && c) p ∙ ap (λ (x : Bool). all_below f i && x) q)

  pub all-fails : (n i : ℕ) → i < n → f i ≡ false → all_below f n ≡ false
  unfolding all_below
  all-fails zero i l h = absurd (not-suc-le-zero l)
  all-fails (suc n) i l h =
      ⊎_elim (λ e. and_false_r (all_below f n) (f n) (subst (λ (k : ℕ). f k ≡ false) e h))
      (λ m. and-false-l (all_below f n) (f n) (all-fails n i m h)) (eq-or-lt_of_le (le_of_suc-le-suc l))

  pub all-at : (n : ℕ) → all_below f n ≡ true → (k : ℕ) → k < n → f k ≡ true
  unfolding all_below
  all-at zero h k l = absurd (not-suc-le-zero l)
  all-at (suc n) h k l =
      ⊎_elim (λ e. subst (λ (m : ℕ). f m ≡ true) (sym e) (and_right (all_below f n) (f n) h))
      (λ m. all-at n (and_left (all_below f n) (f n) h) k m) (eq-or-lt_of_le (le_of_suc-le-suc l))

  pub all_in : (n : ℕ) → ((k : ℕ) → k < n → f k ≡ true) → all_below f n ≡ true
  unfolding all_below
  all_in zero h = refl
  all_in (suc n) h = and-true (all_below f n) (f n) (all_in n (λ k l. h k (omega arith))) (h n (omega arith))

  -- a loop that came to the end
  pub all_end : (n i : ℕ) → i ≡ n → all_below f i ≡ true → true ≡ all_below f n
  all_end n i e h = sym h ∙ ap (all_below f) e

  -- a loop that stopped at place i
  pub all-stops : (n i : ℕ) → i < n → f i ≡ false → false ≡ all_below f n
  all-stops n i l h = sym (all-fails n i l h)

  -- ---- the first place where the test fails
  pub off-none : (n : ℕ) → n ≡ 0 → off_at f n ≡ 0
  unfolding off_at
  off-none zero e = refl
  off-none (suc n) e = absurd (omega arith)

  pub off-all : (n : ℕ) → all_below f n ≡ true → off_at f n ≡ n
  unfolding off_at
  off-all zero h = refl
  off-all (suc n) h = rw h refl

  pub off-stops : (n i : ℕ) → i < n → all_below f i ≡ true → f i ≡ false → off_at f n ≡ i
  unfolding off_at
  off-stops zero i l a h = absurd (not-suc-le-zero l)
  off-stops (suc n) i l a h =
      rw (all-fails (suc n) i l h)
      (⊎_elim (λ e. off-all n (subst (λ (k : ℕ). all_below f k ≡ true) e a) ∙ sym e) (λ m. off-stops n i m a h) (eq-or-lt_of_le (le_of_suc-le-suc l)))

  -- a walk that came to the end
  pub off-ends : (n i : ℕ) → i ≡ n → all_below f i ≡ true → i ≡ off_at f n
  off-ends n i e h = e ∙ sym (off-all n (subst (λ (k : ℕ). all_below f k ≡ true) e h))

  -- where the test fails somewhere, it fails there, at a place below n, and passes at all before
  pub first_off : (n : ℕ) → all_below f n ≡ false → (off_at f n < n) × (f (off_at f n) ≡ false) × ((k : ℕ) → k < off_at f n → f k ≡ true)
  unfolding all_below off_at
  first_off zero h = absurd (true≢false h)
  first_off (suc n) h = go (all_below f n) refl (first_off n)
    where
      go : (t : Bool) → all_below f n ≡ t → (all_below f n ≡ false → (off_at f n < n) × (f (off_at f n) ≡ false) × ((k : ℕ) → k < off_at f n → f k ≡ true))
          → (off_at f (suc n) < suc n) × (f (off_at f (suc n)) ≡ false) × ((k : ℕ) → k < off_at f (suc n) → f k ≡ true)
      go true e r =
          let last = and-rest (all_below f n) (f n) e h in
          rw (off-stops (suc n) n (omega arith) e last) (omega arith, last, all-at n e)
      go false e r =
          let there : off_at f (suc n) ≡ off_at f n = rw h refl in
          rw there (omega (arith, (r e).0), (r e).1, (r e).2)

  pub off-below : (n : ℕ) → off_at f n ≤ n
  off-below n = go (all_below f n) refl
    where
      go : (t : Bool) → all_below f n ≡ t → off_at f n ≤ n
      go true e = omega (arith, off-all n e)
      go false e = omega (arith, (first_off n e).0)

  -- a first place before n, and one that is not
  pub off-within : (n : ℕ) → off_at f n < n → all_below f n ≡ false
  off-within n l = go (all_below f n) refl
    where
      go : (t : Bool) → all_below f n ≡ t → t ≡ false
      go true e = absurd (omega (arith, off-all n e))
      go false e = refl

  pub off-end : (n : ℕ) → n ≤ off_at f n → all_below f n ≡ true
  off-end n l = go (all_below f n) refl
    where
      go : (t : Bool) → all_below f n ≡ t → t ≡ true
      go true e = refl
      go false e = absurd (omega (arith, (first_off n e).0))

-- ---- two tests that agree at every place
pub all-cong : (f h : ℕ → Bool) (n : ℕ) → ((i : ℕ) → i < n → f i ≡ h i) → all_below f n ≡ all_below h n
unfolding all_below
all-cong f h zero e = refl
all-cong f h (suc n) e = ap₂ (λ (x y : Bool). x && y) (all-cong f h n (λ i l. e i (omega arith))) (e n (omega arith))

pub off-cong : (f h : ℕ → Bool) (n : ℕ) → ((i : ℕ) → i < n → f i ≡ h i) → off_at f n ≡ off_at h n
unfolding off_at
off-cong f h zero e = refl
off-cong f h (suc n) e = ap₂ (λ (x : Bool) (k : ℕ). cond x (suc n) k) (all-cong f h (suc n) e) (off-cong f h n (λ i l. e i (omega arith)))

-- ---- two tests, each over every place
pub both_below : (f h : ℕ → Bool) (n : ℕ) → (all_below f n && all_below h n) ≡ all_below (λ k. f k && h k) n
unfolding all_below
both_below f h zero = refl
both_below f h (suc n) = four (all_below f n) (f n) (all_below h n) (h n) ∙ ap (λ (b : Bool). b && (f n && h n)) (both_below f h n)
  where
    four : (a b c d : Bool) → ((a && b) && (c && d)) ≡ ((a && c) && (b && d))
    four true true c d = refl
    four true false true d = refl
    four true false false d = refl
    four false b c d = refl

pub true_below : (n : ℕ) → all_below (λ k. true) n ≡ true
unfolding all_below
true_below zero = refl
true_below (suc n) = ap (λ (b : Bool). b && true) (true_below n)
