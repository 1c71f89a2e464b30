-- The last place at which a test passes: how a loop that goes down comes to it, what it is, and that it is unique.
-- Assumes nothing.
use Prim.Native.Nat.{ℕ, zero, suc, ◌+◌, ◌-◌, ◌≤◌, ◌<◌}
use mathlib.Core.Bool.{Bool, true, false, cond}
use mathlib.Core.Path.{◌≡◌, refl, sym, ◌∙◌, ap, subst}
use mathlib.Core.Logic.{◌⊎◌, inl, inr}
use native.Mathlib.Nat.{eq-or-lt_of_le, add-suc}
use native.Mathlib.Omega.{arith}
use Rattle.knots.specs.Span.{last_after}

-- what the last place is
pub record Last (f : ℕ → Bool) (p k s : ℕ) : Type 0 where
  pub from : p ≤ s
  pub to : s ≤ p + k
  pub passes : (s ≡ p) ⊎ (f s ≡ true)
  pub later : (j : ℕ) → s < j → j ≤ p + k → f j ≡ false

module _ (f : ℕ → Bool) (p : ℕ) where
  none : Last f p 0 p
  none = record { from = omega arith; to = omega arith; passes = inl refl; later = λ j l m. absurd (omega arith) }

  more : (k s : ℕ) → Last f p k s → f (p + suc k) ≡ false → Last f p (suc k) s
  more k s h e =
      record {
        from = h.from;
        to = let t = h.to in omega (arith, add-suc p k);
        passes = h.passes;
        later = λ j l m. elim (eq-or-lt_of_le m) [
          | inl q ↦ subst (λ (i : ℕ). f i ≡ false) (sym q) e
          | inr q ↦ h.later j l (omega (arith, add-suc p k))
        ];
      }

  next : (k s : ℕ) → Last f p k s → (b : Bool) → f (p + suc k) ≡ b → Last f p (suc k) (cond b (p + suc k) s)
  next k s h true e = record { from = omega arith; to = omega arith; passes = inr e; later = λ j l m. absurd (omega arith) }
  next k s h false e = more k s h e

  pub last-is : (k : ℕ) → Last f p k (last_after f p k)
  unfolding last_after
  last-is zero = none
  last-is (suc k) = next k (last_after f p k) (last-is k) (f (p + suc k)) refl

  -- a place at which the test passes, and at no later one, is the last
  pub last-unique : (k s : ℕ) → p ≤ s → s ≤ p + k → f s ≡ true → ((j : ℕ) → s < j → j ≤ p + k → f j ≡ false) → s ≡ last_after f p k
  unfolding last_after
  last-unique zero s a b t h = omega arith
  last-unique (suc k) s a b t h = elim (eq-or-lt_of_le b) [
    | inl e ↦ simp (subst (λ (m : ℕ). f m ≡ true) e t) e
    | inr l ↦
        let up : p + suc k ≤ p + suc k = omega arith in
        simp (h (p + suc k) l up) (last-unique k s a (omega (arith, add-suc p k)) t (λ j i m. h j i (omega (arith, add-suc p k))))
  ]

  -- ---- the loop: at s it answers s, or goes on below s, or is at p
  pub last-here : (s : ℕ) → p < s → f s ≡ true → last_after f p (s - p) ≡ s
  unfolding last_after
  last-here s l t =
      let e : s - p ≡ suc (s - 1 - p) = omega arith in
      let q : p + suc (s - 1 - p) ≡ s = omega arith in
      ap (last_after f p) e ∙ (simp (ap f q ∙ t) q)

  pub last-below : (s : ℕ) → p < s → f s ≡ false → last_after f p (s - p) ≡ last_after f p (s - 1 - p)
  unfolding last_after
  last-below s l t =
      let e : s - p ≡ suc (s - 1 - p) = omega arith in
      let q : p + suc (s - 1 - p) ≡ s = omega arith in
      ap (last_after f p) e ∙ (simp (ap f q ∙ t))

  pub last_none : (k : ℕ) → k ≡ 0 → last_after f p k ≡ p
  unfolding last_after
  last_none k e = ap (last_after f p) e
