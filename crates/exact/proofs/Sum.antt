-- Sums of fractions over 0 .. n. Assumes nothing.
use mathlib.Core.Path.{◌≡◌, refl, sym, ◌∙◌, ap, ap₂}
use mathlib.Core.List.{[], ◌∷◌}
use Prim.Native.Nat.{ℕ, zero, suc, ◌+◌, ◌<◌}
use native.Mathlib.Nat.{add-suc, add-zero as plus-zero}
use native.Mathlib.Omega.{arith}
use Rattle.exact.specs.Rational.{ℚ, ◌+q◌, ◌-q◌, ◌*q◌, ◌/q◌, inv, q0, ◌≤q◌}
use Rattle.exact.specs.Spline.{Σq}
use Rattle.exact.proofs.Field.{qring, q-ring, add-zero, ≤-refl, add-nonneg}

pub Σ-cong : (n : ℕ) {f g : ℕ → ℚ} → ((m : ℕ) → m < n → f m ≡ g m) → Σq n f ≡ Σq n g
unfolding Σq
Σ-cong zero h = refl
Σ-cong (suc n) h = ap₂ ◌+q◌ (Σ-cong n (λ m l. h m (omega arith))) (h n (omega arith))

pub Σ-zero : (n : ℕ) {f : ℕ → ℚ} → ((m : ℕ) → m < n → f m ≡ q0) → Σq n f ≡ q0
unfolding Σq
Σ-zero zero h = refl
Σ-zero (suc n) h = ap₂ ◌+q◌ (Σ-zero n (λ m l. h m (omega arith))) (h n (omega arith)) ∙ add-zero q0

pub Σ-add : (n : ℕ) (f g : ℕ → ℚ) → Σq n (λ m. f m +q g m) ≡ Σq n f +q Σq n g
unfolding Σq
Σ-add zero f g = sym (add-zero q0)
Σ-add (suc n) f g = ap (λ x. x +q (f n +q g n)) (Σ-add n f g) ∙ q-ring (Σq n f ∷ Σq n g ∷ f n ∷ g n ∷ []) (search qring depth 20) tt

pub Σ-mul : (n : ℕ) (a : ℚ) (f : ℕ → ℚ) → Σq n (λ m. a *q f m) ≡ a *q Σq n f
unfolding Σq
Σ-mul zero a f = q-ring (a ∷ []) (search qring depth 20) tt
Σ-mul (suc n) a f = ap (λ x. x +q a *q f n) (Σ-mul n a f) ∙ q-ring (Σq n f ∷ f n ∷ a ∷ []) (search qring depth 20) tt

-- each c m is in two terms, with A m and with B (m + 1)
pub Σ-shift : (n : ℕ) (A B c : ℕ → ℚ) → Σq (suc n) (λ m. (A m +q B (suc m)) *q c m)
    ≡ A 0 *q c 0 +q Σq n (λ m. B (suc m) *q c m +q A (suc m) *q c (suc m)) +q B (suc n) *q c n
unfolding Σq
Σ-shift zero A B c = q-ring (A 0 ∷ B 1 ∷ c 0 ∷ []) (search qring depth 20) tt
Σ-shift (suc n) A B c = ap (λ x. x +q (A (suc n) +q B (suc (suc n))) *q c (suc n)) (Σ-shift n A B c)
    ∙ q-ring (A 0 ∷ c 0 ∷ Σq n (λ m. B (suc m) *q c m +q A (suc m) *q c (suc m)) ∷ A (suc n) ∷ B (suc n) ∷ B (suc (suc n)) ∷ c n ∷ c (suc n) ∷ []) (search qring depth 20) tt

pub Σ-nonneg : (n : ℕ) {f : ℕ → ℚ} → ((m : ℕ) → m < n → q0 ≤q f m) → q0 ≤q Σq n f
unfolding Σq
Σ-nonneg zero h = ≤-refl q0
Σ-nonneg (suc n) h = add-nonneg (Σ-nonneg n (λ m l. h m (omega arith))) (h n (omega arith))

pub Σ-split : (a n : ℕ) (f : ℕ → ℚ) → Σq (a + n) f ≡ Σq a f +q Σq n (λ m. f (a + m))
unfolding Σq
Σ-split a zero f = rw plus-zero (sym (add-zero (Σq a f)))
Σ-split a (suc n) f = rw add-suc (ap (λ x. x +q f (a + n)) (Σ-split a n f)
    ∙ q-ring (Σq a f ∷ Σq n (λ m. f (a + m)) ∷ f (a + n) ∷ []) (search qring depth 20) tt)

-- ---- sums relative to a reference r, with weights over a scale

pub Σ-scale : (n : ℕ) (N w : ℕ → ℚ) (σ : ℚ) → Σq n (λ i. N i *q (w i /q σ)) ≡ inv σ *q Σq n (λ i. N i *q w i)
unfolding Σq
Σ-scale zero N w σ = q-ring (inv σ ∷ []) (search qring depth 20) tt
Σ-scale (suc n) N w σ = ap (λ x. x +q N n *q (w n /q σ)) (Σ-scale n N w σ)
    ∙ q-ring (Σq n (λ i. N i *q w i) ∷ N n ∷ w n ∷ inv σ ∷ []) (search qring depth 20) tt

pub Σ-relative : (n : ℕ) (N w P : ℕ → ℚ) (r σ : ℚ)
    → Σq n (λ i. N i *q ((P i -q r) *q (w i /q σ))) ≡ inv σ *q (Σq n (λ i. N i *q (w i *q P i)) -q r *q Σq n (λ i. N i *q w i))
unfolding Σq
Σ-relative zero N w P r σ = q-ring (inv σ ∷ r ∷ []) (search qring depth 20) tt
Σ-relative (suc n) N w P r σ = ap (λ x. x +q N n *q ((P n -q r) *q (w n /q σ))) (Σ-relative n N w P r σ)
    ∙ q-ring (Σq n (λ i. N i *q (w i *q P i)) ∷ Σq n (λ i. N i *q w i) ∷ N n ∷ w n ∷ P n ∷ r ∷ inv σ ∷ []) (search qring depth 20) tt

pub Σ-outer : (n : ℕ) (X W : ℕ → ℚ) (r q : ℚ) → Σq n (λ i. q *q (X i -q r *q W i)) ≡ q *q (Σq n X -q r *q Σq n W)
unfolding Σq
Σ-outer zero X W r q = q-ring (q ∷ r ∷ []) (search qring depth 20) tt
Σ-outer (suc n) X W r q = ap (λ x. x +q q *q (X n -q r *q W n)) (Σ-outer n X W r q)
    ∙ q-ring (Σq n X ∷ Σq n W ∷ X n ∷ W n ∷ r ∷ q ∷ []) (search qring depth 20) tt
