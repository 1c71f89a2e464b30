-- The walk over the nonempty spans: how its loop goes on, and what an answer means.
-- Assumes nothing.
use Prim.Native.Nat.{ℕ, zero, suc, ◌+◌, ◌-◌, ◌≤◌, ◌<◌}
use mathlib.Core.Bool.{Bool, true, false, cond}
use mathlib.Core.Path.{◌≡◌, refl, sym, ◌∙◌, ap, subst}
use mathlib.Core.Logic.{inl, inr}
use mathlib.Core.List.{List}
use native.Mathlib.Omega.{arith}
use native.Mathlib.Nat.{eq-or-lt_of_le}
use lib.ListN.{length}
use lib.Dec.{ltb}
use lib.Ieee.{Float}
use borrow.Author.Tests.{ltb-true, ltb-false}
use Rattle.doubles.specs.Run.{at}
use Rattle.knots.specs.Span.{nonempty}
use Rattle.knots.specs.Walk.{first_of, first_from, next_span}
use Rattle.std.specs.Prelude.{Option, Some, None}
use Rattle.knots.specs.Knots.{ValidKnots}
use Rattle.knots.proofs.Spans.{only-first}
use Rattle.knots.proofs.Answers.{not-under}

-- ---- the loop at place s, below n
module _ (n : ℕ) (ks : List Float) (s : ℕ) where
  one_more : s < n → first_from n ks s ≡ cond (nonempty ks s) (Some s) (first_from n ks (s + 1))
  unfolding first_of
  one_more l =
      let e : n - s ≡ suc (n - (s + 1)) = omega arith in
      ap (λ (k : ℕ). first_of k ks s) e

  pub walk_here : s < n → nonempty ks s ≡ true → Some s ≡ first_from n ks s
  walk_here l t = sym (one_more l ∙ simp t)

  pub walk-on : s < n → nonempty ks s ≡ false → first_from n ks s ≡ first_from n ks (s + 1)
  walk-on l t = one_more l ∙ simp t

  pub walk_end : n ≤ s → None ≡ first_from n ks s
  unfolding first_of
  walk_end l =
      let e : n - s ≡ 0 = omega arith in
      sym (ap (λ (k : ℕ). first_of k ks s) e)

-- past the end of the run no span is nonempty
none-past : (k : ℕ) (ks : List Float) (s : ℕ) → length ks ≤ s + 1 → None ≡ first_of k ks s
unfolding first_of
none-past zero ks s l = refl
none-past (suc k) ks s l = simp (not-under ks (s + 1) (at ks s) l) (none-past k ks (s + 1) (omega arith))

pub walk-past : (n : ℕ) (ks : List Float) (s : ℕ) → length ks ≤ s + 1 → None ≡ first_from n ks s
walk-past n ks s l = none-past (n - s) ks s l

-- ---- what an answer of the k places from i on means
abbrev Means : ℕ → List Float → ℕ → Option ℕ → Type 0
Means k ks i (Some s) = (i ≤ s) × (s < i + k) × (nonempty ks s ≡ true) × ((j : ℕ) → i ≤ j → j < s → nonempty ks j ≡ false)
Means k ks i None = (j : ℕ) → i ≤ j → j < i + k → nonempty ks j ≡ false

-- a place that is empty in front changes nothing
in-front : (k : ℕ) (ks : List Float) (i : ℕ) → nonempty ks i ≡ false → (r : Option ℕ) → Means k ks (i + 1) r → Means (suc k) ks i r
in-front k ks i e (Some s) m =
    let F = m.0 in
    let B = m.1 in (
      omega arith,
      omega arith,
      m.2,
      λ j a b. elim (eq-or-lt_of_le a) [
        | inl q ↦ subst (λ (x : ℕ). nonempty ks x ≡ false) q e
        | inr l ↦ m.3 j (omega arith) b
      ],
    )
in-front k ks i e None m = λ j a b. elim (eq-or-lt_of_le a) [
  | inl q ↦ subst (λ (x : ℕ). nonempty ks x ≡ false) q e
  | inr l ↦ m j (omega arith) (omega arith)
]

first_step : (k : ℕ) (ks : List Float) (i : ℕ) → Means k ks (i + 1) (first_of k ks (i + 1)) → (t : Bool) → nonempty ks i ≡ t
    → Means (suc k) ks i (cond t (Some i) (first_of k ks (i + 1)))
first_step k ks i m true t = (omega arith, omega arith, t, λ j a b. absurd (omega arith))
first_step k ks i m false t = in-front k ks i t (first_of k ks (i + 1)) m

first-means : (k : ℕ) (ks : List Float) (i : ℕ) → Means k ks i (first_of k ks i)
unfolding first_of
first-means zero ks i = λ j a b. absurd (omega arith)
first-means (suc k) ks i = first_step k ks i (first-means k ks (i + 1)) (nonempty ks i) refl

-- s is a nonempty span of p..=n-1 from i on, and none before it is
pub record IsNext (p n : ℕ) (ks : List Float) (i s : ℕ) : Type 0 where
  pub from : i ≤ s
  pub above : p ≤ s
  pub below : s < n
  pub here : nonempty ks s ≡ true
  pub first : (j : ℕ) → i ≤ j → p ≤ j → j < s → nonempty ks j ≡ false

module _ (p n : ℕ) (ks : List Float) (i : ℕ) where
  pub next-at : (s : ℕ) → next_span p n ks i ≡ Some s → IsNext p n ks i s
  next-at s = go (ltb i p) refl
    where
      found : (j : ℕ) → first_from n ks j ≡ Some s → Means (n - j) ks j (Some s)
      found j e = subst (Means (n - j) ks j) e (first-means (n - j) ks j)

      go : (t : Bool) → ltb i p ≡ t → cond t (first_from n ks p) (first_from n ks i) ≡ Some s → IsNext p n ks i s
      go true t e =
          let m = found p e in
          let F = m.0 in
          let B = m.1 in
          let L = ltb-true i p t in
          record { from = omega arith; above = F; below = omega arith; here = m.2; first = λ j a b c. m.3 j b c }
      go false t e =
          let m = found i e in
          let F = m.0 in
          let B = m.1 in
          let L = ltb-false i p t in
          record { from = F; above = omega arith; below = omega arith; here = m.2; first = λ j a b c. m.3 j a c }

  pub next-none : next_span p n ks i ≡ None → (j : ℕ) → i ≤ j → p ≤ j → j < n → nonempty ks j ≡ false
  next-none = go (ltb i p) refl
    where
      none : (k : ℕ) → first_from n ks k ≡ None → (j : ℕ) → k ≤ j → j < n → nonempty ks j ≡ false
      none k e j a b = subst (Means (n - k) ks k) e (first-means (n - k) ks k) j a (omega arith)

      go : (t : Bool) → ltb i p ≡ t → cond t (first_from n ks p) (first_from n ks i) ≡ None → (j : ℕ) → i ≤ j → p ≤ j → j < n → nonempty ks j ≡ false
      go true t e j a b c = none p e j b c
      go false t e j a b c = none i e j a c

  -- valid knots have a nonempty span
  pub some_next : ValidKnots p n ks → i ≤ p → next_span p n ks i ≡ None → ⊥
  some_next v l e =
      let none = next-none e in
      let C = v.count in
      let first : nonempty ks p ≡ true = only-first p n ks v (λ k a b. none k (omega arith) (omega arith) b) in
      let empty : nonempty ks p ≡ false = none p l (omega arith) C in
      let z : ◌≡◌ {A = ℕ} 0 1 = cc in
      omega arith
