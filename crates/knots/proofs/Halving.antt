-- The binary search: its window halves at each step whatever the knots are, and it ends at a place where v is not below this knot and below the next.
-- Assumes nothing.
use Prim.Native.Nat.{ℕ, zero, suc, ◌+◌, ◌-◌, ◌/◌, ◌≤◌, ◌<◌}
use mathlib.Core.Bool.{Bool, true, false}
use mathlib.Core.Path.{◌≡◌, refl, sym, ◌∙◌, subst}
use mathlib.Core.List.{List}
use native.Mathlib.Omega.{arith}
use lib.Dec.{leb}
use lib.Ieee.{Float, lt}
use borrow.Author.Tests.{le-leb, lt-leb, leb-true, leb-false}
use Rattle.doubles.specs.Run.{at}
use Rattle.knots.specs.Span.{halved}

-- what the search has come to: a window, and the steps that suffice for it
pub record Window (ks : List Float) (v : Float) (p n goal low high : ℕ) : Type 0 where
  pub from : p ≤ low
  pub wide : low < high
  pub to : high ≤ n
  pub left : ℕ
  pub enough : high ≤ low + left
  pub found : goal ≡ halved left ks v low high

-- the place that it ends at
pub record Between (ks : List Float) (v : Float) (low high s : ℕ) : Type 0 where
  pub from : low ≤ s
  pub below : s < high
  pub reached : lt v (at ks s) ≡ false
  pub next : lt v (at ks (s + 1)) ≡ true

module _ (ks : List Float) (v : Float) where
  one_left : (k low high : ℕ) → high ≤ low + 1 → halved k ks v low high ≡ low
  unfolding halved
  one_left zero low high h = refl
  one_left (suc k) low high h = simp (le-leb high (low + 1) h)

  lower : (k low high : ℕ) → low + 1 < high → lt v (at ks ((low + high) / 2)) ≡ true → halved (suc k) ks v low high ≡ halved k ks v low ((low + high) / 2)
  unfolding halved
  lower k low high h t = simp (lt-leb high (low + 1) h, t)

  upper : (k low high : ℕ) → low + 1 < high → lt v (at ks ((low + high) / 2)) ≡ false → halved (suc k) ks v low high ≡ halved k ks v ((low + high) / 2) high
  unfolding halved
  upper k low high h t = simp (lt-leb high (low + 1) h, t)

  -- ---- the loop
  module _ (p n goal low high : ℕ) (w : Window ks v p n goal low high) where
    pub window-end : high ≤ low + 1 → low ≡ goal
    window-end h = sym (w.found ∙ one_left w.left low high h)

    pub window-lower : low + 1 < high → lt v (at ks ((low + high) / 2)) ≡ true → Window ks v p n goal low ((low + high) / 2)
    window-lower h t = go w.left w.enough w.found
      where
        go : (k : ℕ) → high ≤ low + k → goal ≡ halved k ks v low high → Window ks v p n goal low ((low + high) / 2)
        go zero e f = absurd (omega arith)
        go (suc k) e f =
            let W = w.to in
            record { from = w.from; wide = omega arith; to = omega arith; left = k; enough = omega arith; found = f ∙ lower k low high h t }

    pub window-upper : low + 1 < high → lt v (at ks ((low + high) / 2)) ≡ false → Window ks v p n goal ((low + high) / 2) high
    window-upper h t = go w.left w.enough w.found
      where
        go : (k : ℕ) → high ≤ low + k → goal ≡ halved k ks v low high → Window ks v p n goal ((low + high) / 2) high
        go zero e f = absurd (omega arith)
        go (suc k) e f =
            let F = w.from in
            record { from = omega arith; wide = omega arith; to = w.to; left = k; enough = omega arith; found = f ∙ upper k low high h t }

  pub window-start : (p n : ℕ) → p < n → Window ks v p n (halved (n - p) ks v p n) p n
  window-start p n l = record { from = omega arith; wide = l; to = omega arith; left = n - p; enough = omega arith; found = refl }

  -- ---- what it ends at, on any knots
  Search : ℕ → Type 0
  Search k =
      (low high : ℕ) → low < high → high ≤ low + k → lt v (at ks low) ≡ false → lt v (at ks high) ≡ true
      → Between ks v low high (halved k ks v low high)

  half : (k : ℕ) → Search k → (low high : ℕ) → low + 1 < high → high ≤ low + suc k → lt v (at ks low) ≡ false → lt v (at ks high) ≡ true
      → (t : Bool) → lt v (at ks ((low + high) / 2)) ≡ t → Between ks v low high (halved (suc k) ks v low high)
  unfolding Search
  half k search low high h e a b true t =
      let i = search low ((low + high) / 2) (omega arith) (omega arith) a t in
      let B = i.below in
      subst (Between ks v low high) (sym (lower k low high h t)) (record { from = i.from; below = omega arith; reached = i.reached; next = i.next })
  half k search low high h e a b false t =
      let i = search ((low + high) / 2) high (omega arith) (omega arith) t b in
      let F = i.from in
      subst (Between ks v low high) (sym (upper k low high h t)) (record { from = omega arith; below = i.below; reached = i.reached; next = i.next })

  step : (k : ℕ) → Search k → (low high : ℕ) → low < high → high ≤ low + suc k → lt v (at ks low) ≡ false → lt v (at ks high) ≡ true
      → (t : Bool) → leb high (low + 1) ≡ t → Between ks v low high (halved (suc k) ks v low high)
  step k search low high l e a b true t =
      let h = leb-true high (low + 1) t in
      let q : high ≡ low + 1 = omega arith in
      subst (Between ks v low high) (sym (one_left (suc k) low high h))
      (record { from = omega arith; below = l; reached = a; next = subst (λ (m : ℕ). lt v (at ks m) ≡ true) q b })
  step k search low high l e a b false t = half k search low high (leb-false high (low + 1) t) e a b (lt v (at ks ((low + high) / 2))) refl

  pub between : (k low high : ℕ) → low < high → high ≤ low + k → lt v (at ks low) ≡ false → lt v (at ks high) ≡ true
      → Between ks v low high (halved k ks v low high)
  unfolding Search
  between zero low high l e a b = absurd (omega arith)
  between (suc k) low high l e a b = step k (between k) low high l e a b (leb high (low + 1)) refl
