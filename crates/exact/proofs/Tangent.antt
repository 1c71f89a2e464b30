-- The exact derivatives are derivatives: at t + h the exact point is the point at t, h times its derivative, and h h times a fraction in which, differences of knots aside, nothing but the weights' sums at t and at t + h stands below; so is that of a surface along u and along v.
-- Assumes nothing.
use mathlib.Core.Path.{◌≡◌, ◌∙◌, ap, ap₂}
use mathlib.Core.Logic.{◌≢◌}
use mathlib.Core.List.{[], ◌∷◌}
use Prim.Native.Nat.{ℕ, zero, suc}
use Rattle.exact.specs.Rational.{ℚ, ◌+q◌, ◌-q◌, ◌*q◌, ◌/q◌, inv, q0}
use Rattle.exact.specs.Spline.{Σq, basis, dbasis, whole, dwhole, quotient, exact, dexact}
use Rattle.exact.specs.Surface.{sum₂, whole₂, exact₂, dexact₂u, dexact₂v}
use Rattle.exact.proofs.Laws.{mul-inv}
use Rattle.exact.proofs.Field.{qring, q-ring, q-combine₂, div-eq}
use Rattle.exact.proofs.Sum.{Σ-cong}
use Rattle.exact.proofs.Deriv.{rest, basis-at}
use Rattle.exact.proofs.Jets.{whole-at}

-- x and its derivative, with e over h h
abbrev pub Along : ℚ → ℚ → ℚ → ℚ → ℚ
Along h x x' e = x +q h *q x' +q h *q h *q e

-- what is over h h in a quotient of two such
unfoldable pub bend : ℚ → ℚ → ℚ → ℚ → ℚ → ℚ → ℚ → ℚ
unfolding quotient
bend h X X' E W W' F =
    let d = quotient X X' W W' in
    (E -q X /q W *q F -q d *q W' -q h *q (d *q F)) /q Along h W W' F

-- the rule for quotients
pub quotient-at : (h X X' E W W' F : ℚ) → W ≢ q0 → Along h W W' F ≢ q0 → Along h X X' E /q Along h W W' F ≡ Along h (X /q W) (quotient X X' W W') (bend h X X' E W W' F)
unfolding quotient bend
quotient-at h X X' E W W' F n m =
    let i = inv W in
    let j = inv (Along h W W' F) in
    let d = (X' -q X *q i *q W') *q i in
    div-eq m (q-combine₂ (X +q h *q (X' -q X *q i *q W')) (h *q h *q (E -q X *q i *q F -q d *q W' -q h *q (d *q F))) (mul-inv W n) (mul-inv (Along h W W' F) m)
    (q-ring (h ∷ X ∷ X' ∷ E ∷ W ∷ W' ∷ F ∷ i ∷ j ∷ []) (search qring depth 20) tt))

-- ---- a curve
module _ (U : ℕ → ℚ) (t h : ℚ) (s p count : ℕ) (w P : ℕ → ℚ) where
  abbrev S : (ℕ → ℚ) → ℚ
  S c = whole U t s p count c

  abbrev S' : (ℕ → ℚ) → ℚ
  S' c = dwhole U t s p count c

  abbrev E : (ℕ → ℚ) → ℚ
  E c = Σq count (λ i. rest U t h s p i *q c i)

  abbrev w_p : ℕ → ℚ
  w_p i = w i *q P i

  pub exact-at : S w ≢ q0 → whole U (t +q h) s p count w ≢ q0
      → exact U (t +q h) s p count w P ≡ Along h (exact U t s p count w P) (dexact U t s p count w P) (bend h (S w_p) (S' w_p) (E w_p) (S w) (S' w) (E w))
  unfolding exact dexact
  exact-at n m =
      ap₂ (λ x y. x /q y) (whole-at U t h s p count w_p) (whole-at U t h s p count w)
      ∙ quotient-at h (S w_p) (S' w_p) (E w_p) (S w) (S' w) (E w) n (λ z. m (whole-at U t h s p count w ∙ z))

-- ---- a surface
Σ-along : (n : ℕ) (h : ℚ) (x y z : ℕ → ℚ) → Σq n (λ i. Along h (x i) (y i) (z i)) ≡ Along h (Σq n x) (Σq n y) (Σq n z)
unfolding Σq
Σ-along zero h x y z = q-ring (h ∷ []) (search qring depth 20) tt
Σ-along (suc n) h x y z = ap (λ a. a +q Along h (x n) (y n) (z n)) (Σ-along n h x y z) ∙ q-ring (h ∷ Σq n x ∷ Σq n y ∷ Σq n z ∷ x n ∷ y n ∷ z n ∷ []) (search qring depth 20) tt

-- a double sum whose factors change
sums-along : (m n : ℕ) (h : ℚ) (D D₁ D' R c : ℕ → ℕ → ℚ) → ((i j : ℕ) → D₁ i j ≡ Along h (D i j) (D' i j) (R i j))
    → Σq m (λ i. Σq n (λ j. D₁ i j *q c i j)) ≡ Along h (Σq m (λ i. Σq n (λ j. D i j *q c i j))) (Σq m (λ i. Σq n (λ j. D' i j *q c i j))) (Σq m (λ i. Σq n (λ j. R i j *q c i j)))
sums-along m n h D D₁ D' R c e =
    Σ-cong m (λ i l. Σ-cong n (λ j k. ap (λ d. d *q c i j) (e i j) ∙ q-ring (h ∷ D i j ∷ D' i j ∷ R i j ∷ c i j ∷ []) (search qring depth 20) tt)
    ∙ Σ-along n h (λ j. D i j *q c i j) (λ j. D' i j *q c i j) (λ j. R i j *q c i j))
    ∙ Σ-along m h (λ i. Σq n (λ j. D i j *q c i j)) (λ i. Σq n (λ j. D' i j *q c i j)) (λ i. Σq n (λ j. R i j *q c i j))

first-along : (h a a' r b : ℚ) → Along h a a' r *q b ≡ Along h (a *q b) (a' *q b) (r *q b)
first-along h a a' r b = q-ring (h ∷ a ∷ a' ∷ r ∷ b ∷ []) (search qring depth 20) tt

second-along : (h a b b' r : ℚ) → a *q Along h b b' r ≡ Along h (a *q b) (a *q b') (a *q r)
second-along h a b b' r = q-ring (h ∷ a ∷ b ∷ b' ∷ r ∷ []) (search qring depth 20) tt

module _ (U : ℕ → ℚ) (u : ℚ) (s p m : ℕ) (U' : ℕ → ℚ) (v : ℚ) (z q n : ℕ) (h : ℚ) (w P : ℕ → ℕ → ℚ) where
  abbrev W : (ℕ → ℕ → ℚ) → ℚ
  W c = whole₂ U u s p m U' v z q n c

  abbrev wp : ℕ → ℕ → ℚ
  wp i j = w i j *q P i j

  -- the sums with the derivative, or with what is over h h, in the place of one factor
  abbrev along-u : (ℕ → ℚ) → (ℕ → ℕ → ℚ) → ℚ
  along-u A c = sum₂ m n A (basis U' v z q) c

  abbrev along-v : (ℕ → ℚ) → (ℕ → ℕ → ℚ) → ℚ
  along-v B c = sum₂ m n (basis U u s p) B c

  whole₂-u : (c : ℕ → ℕ → ℚ) → whole₂ U (u +q h) s p m U' v z q n c ≡ Along h (W c) (along-u (dbasis U u s p) c) (along-u (rest U u h s p) c)
  unfolding whole₂ sum₂
  whole₂-u c = sums-along m n h _ _ _ _ c (λ i j. ap (λ a. a *q basis U' v z q j) (basis-at U u h s p i) ∙ first-along h (basis U u s p i) (dbasis U u s p i) (rest U u h s p i) (basis U' v z q j))

  whole₂-v : (c : ℕ → ℕ → ℚ) → whole₂ U u s p m U' (v +q h) z q n c ≡ Along h (W c) (along-v (dbasis U' v z q) c) (along-v (rest U' v h z q) c)
  unfolding whole₂ sum₂
  whole₂-v c = sums-along m n h _ _ _ _ c (λ i j. ap (λ b. basis U u s p i *q b) (basis-at U' v h z q j) ∙ second-along h (basis U u s p i) (basis U' v z q j) (dbasis U' v z q j) (rest U' v h z q j))

  pub exact₂-at-u : W w ≢ q0 → whole₂ U (u +q h) s p m U' v z q n w ≢ q0
      → exact₂ U (u +q h) s p m U' v z q n w P ≡ Along h (exact₂ U u s p m U' v z q n w P) (dexact₂u U u s p m U' v z q n w P)
      (bend h (W wp) (along-u (dbasis U u s p) wp) (along-u (rest U u h s p) wp) (W w) (along-u (dbasis U u s p) w) (along-u (rest U u h s p) w))
  unfolding exact₂ dexact₂u
  exact₂-at-u k l = ap₂ (λ x y. x /q y) (whole₂-u wp) (whole₂-u w) ∙ quotient-at h (W wp) _ _ (W w) _ _ k (λ e. l (whole₂-u w ∙ e))

  pub exact₂-at-v : W w ≢ q0 → whole₂ U u s p m U' (v +q h) z q n w ≢ q0
      → exact₂ U u s p m U' (v +q h) z q n w P ≡ Along h (exact₂ U u s p m U' v z q n w P) (dexact₂v U u s p m U' v z q n w P)
      (bend h (W wp) (along-v (dbasis U' v z q) wp) (along-v (rest U' v h z q) wp) (W w) (along-v (dbasis U' v z q) w) (along-v (rest U' v h z q) w))
  unfolding exact₂ dexact₂v
  exact₂-at-v k l = ap₂ (λ x y. x /q y) (whole₂-v wp) (whole₂-v w) ∙ quotient-at h (W wp) _ _ (W w) _ _ k (λ e. l (whole₂-v w ∙ e))
