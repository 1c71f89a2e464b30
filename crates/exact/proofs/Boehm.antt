-- Boehm's theorem over the fractions: one knot more, with the controls blended by the shares of the new knot, and the curve is the same on every span. Assumes nothing.
-- U is the knots, W the knots with x after place k; c and d are the controls, as functions of their index.
use mathlib.Core.Path.{◌≡◌, refl, sym, ◌∙◌, ap, ap₂, subst}
use mathlib.Core.Logic.{◌⊎◌, inl, inr, ⊎_elim}
use mathlib.Core.List.{[], ◌∷◌}
use Prim.Native.Nat.{ℕ, zero, suc, ◌+◌, ◌≤◌, ◌<◌}
use native.Mathlib.Nat.{add-suc, suc-add, eq-or-lt_of_le}
use native.Mathlib.Omega.{arith}
use Rattle.exact.specs.Rational.{ℚ, ◌+q◌, ◌-q◌, ◌*q◌, inv, q0, q1, ◌<q◌}
use Rattle.exact.specs.Spline.{rise, Knots}
use Rattle.exact.specs.Boehm.{mix, inserted}
use Rattle.exact.proofs.Laws.{mul-inv}
use Rattle.exact.proofs.Field.{qring, q-ring, q-combine, q-combine₂, pos-ne, div_is, ≤-<-trans, <-≤-trans, lt-sub}
use Rattle.exact.proofs.DeBoor.{level, level-is, deboor, curve, deboor-is, wide}
use Rattle.exact.proofs.Refined.{split, Refined, OldSpan, old-knots}
use Rattle.exact.proofs.Shares.{mix-cong, ins-low, ins-mid, ins-high}

-- ---- the algebra of one place: t the parameter, x the new knot, a, b, c controls

-- the new knot is the right end, u the left; g and h are the inverses of the new width and the old
first-place : (t x u a b g h : ℚ) → (x -q u) *q g ≡ q1 → mix ((t -q u) *q g) a (mix ((x -q u) *q h) a b) ≡ mix ((t -q u) *q h) a b
first-place t x u a b g h e =
    q-combine ((t -q u) *q h *q (b -q a)) e (q-ring (t ∷ x ∷ u ∷ a ∷ b ∷ g ∷ h ∷ []) (search qring depth 20) tt)

-- the new knot is the left end, y the right; v is the knot before it; g and h are the inverses of y - x and y - v
last-place : (t x v y a b g h : ℚ) → (y -q x) *q g ≡ q1 → (y -q v) *q h ≡ q1
    → mix ((t -q x) *q g) (mix ((x -q v) *q h) a b) b ≡ mix ((t -q v) *q h) a b
last-place t x v y a b g h e f =
    q-combine₂ ((b -q a) *q (q1 -q (y -q v) *q h +q (t -q x) *q h)) ((b -q a) *q ((y -q t) *q g -q q1)) e f
    (q-ring (t ∷ x ∷ v ∷ y ∷ a ∷ b ∷ g ∷ h ∷ []) (search qring depth 20) tt)

-- the new knot is between: u is the left end, y the right, v the knot before u; g and h are the inverses of y - u and y - v, l any number
middle-place : (t x u v y a b c g h l : ℚ) → (y -q u) *q g ≡ q1 → (y -q v) *q h ≡ q1
    → mix ((t -q u) *q g) (mix ((x -q v) *q h) a b) (mix ((x -q u) *q l) b c) ≡ mix ((x -q u) *q g) (mix ((t -q v) *q h) a b) (mix ((t -q u) *q l) b c)
middle-place t x u v y a b c g h l e f =
    q-combine₂ ((a -q b) *q (x -q t) *q h) ((b -q a) *q (x -q t) *q g) e f
    (q-ring (t ∷ x ∷ u ∷ v ∷ y ∷ a ∷ b ∷ c ∷ g ∷ h ∷ l ∷ []) (search qring depth 20) tt)

-- ---- the levels

-- one level of de Boor's recursion, at the index of its result
unfoldable pub leveled : (ℕ → ℚ) → ℚ → ℕ → (ℕ → ℚ) → ℕ → ℚ
unfolding rise
leveled U t q c zero = c 0
leveled U t q c (suc j) = mix (rise U t q (suc j)) (c j) (c (suc j))

leveled-at : (U : ℕ → ℚ) (t : ℚ) (q : ℕ) (c : ℕ → ℚ) (j : ℕ) → leveled U t q c (suc j) ≡ mix (rise U t q (suc j)) (c j) (c (suc j))
unfolding leveled
leveled-at U t q c j = refl

positive-is : (m : ℕ) → 0 < m → (l : ℕ) × (m ≡ suc l)
positive-is zero h = absurd (omega arith)
positive-is (suc l) h = (l, refl)

leveled-suc : (U : ℕ → ℚ) (t : ℚ) (q : ℕ) (c : ℕ → ℚ) (j : ℕ) → leveled U t q c (suc j) ≡ mix ((t -q U (suc j)) *q inv (U (suc j + suc q) -q U (suc j))) (c j) (c (suc j))
unfolding leveled rise
leveled-suc U t q c j = mix-cong (div_is _ _) refl refl

module _ {U W : ℕ → ℚ} {k : ℕ} {x : ℚ} (R : Refined U W k x) {n s : ℕ} (K : Knots W n s) (t : ℚ) where
  -- one level after the insertion is the insertion after one level
  module _ (q j : ℕ) (c : ℕ → ℚ) (in₁ : suc j ≤ s) (in₂ : s < suc j + suc q) (in₃ : suc j + suc q < n) where
    abbrev Commutes : Type 0
    Commutes = leveled W t q (inserted U x k (suc q) c) (suc j) ≡ inserted U x k q (leveled U t q c) (suc j)

    -- the level of the refined knots, at the two knots that it has
    at-knots : (A B : ℚ) → W (suc j) ≡ A → W (suc j + suc q) ≡ B → (a b : ℚ) → inserted U x k (suc q) c j ≡ a → inserted U x k (suc q) c (suc j) ≡ b
        → leveled W t q (inserted U x k (suc q) c) (suc j) ≡ mix ((t -q A) *q inv (B -q A)) a b
    at-knots A B e f a b g h = leveled-suc W t q (inserted U x k (suc q) c) j ∙ mix-cong (ap₂ (λ u v. (t -q u) *q inv (v -q u)) e f) g h

    width : q0 <q W (suc j + suc q) -q W (suc j)
    width = wide K q (suc j) in₁ in₂ in₃

    width-at : (A B : ℚ) → W (suc j) ≡ A → W (suc j + suc q) ≡ B → (B -q A) *q inv (B -q A) ≡ q1
    width-at A B e f = mul-inv (B -q A) (pos-ne (subst (λ z. q0 <q z) (ap₂ (λ u v. v -q u) e f) width))

    far-left : suc j + suc q ≤ k → Commutes
    far-left h =
        at-knots (U (suc j)) (U (suc j + suc q)) (R.before _ (omega arith)) (R.before _ h) (c j) (c (suc j)) (ins-low U x k (suc q) c j (omega arith)) (ins-low U x k (suc q) c (suc j) h)
        ∙ sym (ins-low U x k q (leveled U t q c) (suc j) (omega arith) ∙ leveled-suc U t q c j)

    left_end : suc j + suc q ≡ suc k → Commutes
    left_end h =
        let e : W (suc j) ≡ U (suc j) = R.before _ (omega arith) in
        let f : W (suc j + suc q) ≡ x = ap W h ∙ R.new in
        at-knots (U (suc j)) x e f (c j) _ (ins-low U x k (suc q) c j (omega arith)) (ins-mid U x k (suc q) c j (omega arith) (omega arith))
        ∙ first-place t x (U (suc j)) (c j) (c (suc j)) (inv (x -q U (suc j))) (inv (U (suc j + suc q) -q U (suc j))) (width-at (U (suc j)) x e f)
        ∙ sym (ins-low U x k q (leveled U t q c) (suc j) (omega arith) ∙ leveled-suc U t q c j)

    far-right : (l : ℕ) → j ≡ suc l → k < j → Commutes
    far-right l z h =
        at-knots (U j) (U (j + suc q)) (R.after j h) (ap W (suc-add j (suc q)) ∙ R.after (j + suc q) (omega arith)) (c l) (c j)
        (ap (inserted U x k (suc q) c) z ∙ ins-high U x k (suc q) c l (omega arith)) (ins-high U x k (suc q) c j (omega arith))
        ∙ sym (ins-high U x k q (leveled U t q c) j (omega arith) ∙ rw (z) (leveled-suc U t q c l))

    wider : j ≤ k → k < j + suc q → (U (j + suc q) -q U j) *q inv (U (j + suc q) -q U j) ≡ q1
    wider h g = mul-inv _ (pos-ne (lt-sub (subst (λ y. U j <q y) (ap W (suc-add j (suc q)) ∙ R.after (j + suc q) g)
        (subst (λ y. y <q W (suc j + suc q)) (R.before j h)
        (≤-<-trans (K.mono j s (omega arith) (omega arith)) (<-≤-trans K.gap (K.mono (suc s) (suc j + suc q) (omega arith) (omega arith))))))))

    right_end : (l : ℕ) → j ≡ suc l → j ≡ k → Commutes
    right_end l z h =
        let e : W (suc j) ≡ x = ap (λ m. W (suc m)) h ∙ R.new in
        let f : W (suc j + suc q) ≡ U (j + suc q) = ap W (suc-add j (suc q)) ∙ R.after (j + suc q) (omega arith) in
        at-knots x (U (j + suc q)) e f _ (c j)
        (ap (inserted U x k (suc q) c) z ∙ ins-mid U x k (suc q) c l (omega arith) (omega arith)) (ins-high U x k (suc q) c j (omega arith))
        ∙ ap (λ m. mix ((t -q x) *q inv (U (j + suc q) -q x)) (mix ((x -q U m) *q inv (U (m + suc q) -q U m)) (c l) (c m)) (c j)) (sym z)
        ∙ last-place t x (U j) (U (j + suc q)) (c l) (c j) (inv (U (j + suc q) -q x)) (inv (U (j + suc q) -q U j)) (width-at x (U (j + suc q)) e f) (wider (omega arith) (omega arith))
        ∙ sym (ins-high U x k q (leveled U t q c) j (omega arith) ∙ (ap (leveled U t q c) z ∙ leveled-suc U t q c l)
        ∙ ap (λ m. mix ((t -q U m) *q inv (U (m + suc q) -q U m)) (c l) (c m)) (sym z))

    middle : (l : ℕ) → j ≡ suc l → suc k < suc j + suc q → suc j ≤ k → Commutes
    middle l z h g =
        let e : W (suc j) ≡ U (suc j) = R.before _ (omega arith) in
        let f : W (suc j + suc q) ≡ U (j + suc q) = ap W (suc-add j (suc q)) ∙ R.after (j + suc q) (omega arith) in
        let y : suc j + q ≡ j + suc q = omega arith in
        at-knots (U (suc j)) (U (j + suc q)) e f _ _
        (ap (inserted U x k (suc q) c) z ∙ ins-mid U x k (suc q) c l (omega arith) (omega arith)) (ins-mid U x k (suc q) c j (omega arith) (omega arith))
        ∙ ap
        (λ m. mix ((t -q U (suc j)) *q inv (U (j + suc q) -q U (suc j))) (mix ((x -q U m) *q inv (U (m + suc q) -q U m)) (c l) (c m))
        (mix ((x -q U (suc j)) *q inv (U (suc j + suc q) -q U (suc j))) (c j) (c (suc j))))
        (sym z)
        ∙ middle-place t x (U (suc j)) (U j) (U (j + suc q)) (c l) (c j) (c (suc j)) (inv (U (j + suc q) -q U (suc j))) (inv (U (j + suc q) -q U j)) (inv (U (suc j + suc q) -q U (suc j)))
        (width-at (U (suc j)) (U (j + suc q)) e f) (wider (omega arith) (omega arith))
        ∙ sym (ins-mid U x k q (leveled U t q c) j (omega arith) (omega arith)
        ∙ mix-cong (ap (λ m. (x -q U (suc j)) *q inv (U m -q U (suc j))) y)
        (ap (leveled U t q c) z ∙ leveled-suc U t q c l ∙ ap (λ m. mix ((t -q U m) *q inv (U (m + suc q) -q U m)) (c l) (c m)) (sym z))
        (leveled-suc U t q c j))

    inner : suc k < suc j + suc q → suc q ≤ k → (suc j ≤ k) ⊎ (k < suc j) → Commutes
    inner h b (inl g) = let o = positive-is j (omega arith) in middle o.0 o.1 h g
    inner h b (inr g) = let o = positive-is j (omega arith) in
        ⊎_elim (λ (e : k ≡ j). right_end o.0 o.1 (sym e)) (λ (e : k < j). far-right o.0 o.1 e) (eq-or-lt_of_le {n = k} {m = j} (omega arith))

    pub commute : suc q ≤ k → Commutes
    commute b = ⊎_elim (λ (h : suc j + suc q ≤ k). far-left h)
        (λ (h : k < suc j + suc q). ⊎_elim (λ (e : suc k ≡ suc j + suc q). left_end (sym e)) (λ (e : suc k < suc j + suc q). inner e b (split (suc j) k))
        (eq-or-lt_of_le {n = suc k} {m = suc j + suc q} h)) (split (suc j + suc q) k)

module _ {U W : ℕ → ℚ} {k : ℕ} {x : ℚ} (R : Refined U W k x) {n s s₀ : ℕ} (K : Knots W n s) (S : OldSpan k s s₀) (t : ℚ) where
  pub boehm-deboor : (q b b₀ : ℕ) (c d C : ℕ → ℚ) → b + q ≡ s → b₀ + q ≡ s₀ → s + q < n → q ≤ k
      → ((m : ℕ) → m ≤ q → d m ≡ inserted U x k q C (b + m)) → ((m : ℕ) → m ≤ q → c m ≡ C (b₀ + m)) → deboor W t q b d ≡ deboor U t q b₀ c
  unfolding deboor
  boehm-deboor zero b b₀ c d C e e₀ f g D E = D 0 (omega arith) ∙ (⊎_elim low high (split (b + 0) k) ∙ sym (E 0 (omega arith)))
    where
      low : b + 0 ≤ k → inserted U x k 0 C (b + 0) ≡ C (b₀ + 0)
      low h =
          let y : s₀ ≡ s = S.left (omega arith) in
          let z : b + 0 ≡ b₀ + 0 = omega arith in
          ins-low U x k 0 C (b + 0) (omega arith) ∙ ap C z

      high : k < b + 0 → inserted U x k 0 C (b + 0) ≡ C (b₀ + 0)
      high h =
          let y : suc s₀ ≡ s = S.right (omega arith) in
          let z : b + 0 ≡ suc (b₀ + 0) = omega arith in
          ap (inserted U x k 0 C) z ∙ ins-high U x k 0 C (b₀ + 0) (omega arith)
  boehm-deboor (suc q) b b₀ c d C e e₀ f g D E =
      boehm-deboor q (suc b) (suc b₀) (level U t q b₀ c) (level W t q b d) (leveled U t q C) (omega arith) (omega arith) (omega arith) (omega arith)
      (λ m l. level-is W t q b d m
      ∙ mix-cong refl (D m (omega arith)) (D (suc m) (omega arith) ∙ ap (inserted U x k (suc q) C) (add-suc b m))
      ∙ sym (leveled-at W t q (inserted U x k (suc q) C) (b + m))
      ∙ commute R K t q (b + m) C (omega arith) (omega arith) (omega arith) g
      ∙ ap (inserted U x k q (leveled U t q C)) (sym (suc-add b m)))
      (λ m l. level-is U t q b₀ c m
      ∙ mix-cong refl (E m (omega arith)) (E (suc m) (omega arith) ∙ ap C (add-suc b₀ m))
      ∙ sym (leveled-at U t q C (b₀ + m)) ∙ ap (leveled U t q C) (sym (suc-add b₀ m)))

module _ {U W : ℕ → ℚ} {k : ℕ} {x : ℚ} (R : Refined U W k x) {n s s₀ : ℕ} (K : Knots W (suc n) s) (S : OldSpan k s s₀) (in-range : suc s₀ < n) where
  -- Boehm: on every nonempty span of the refined knots the curve's sum is what it was
  pub boehm : (t : ℚ) (p b b₀ : ℕ) (C : ℕ → ℚ) → b + p ≡ s → b₀ + p ≡ s₀ → s + p < suc n → s₀ + p < n → p ≤ k
      → curve W t s p b (λ m. inserted U x k p C (b + m)) ≡ curve U t s₀ p b₀ (λ m. C (b₀ + m))
  boehm t p b b₀ C e e₀ f f₀ g =
      sym (deboor-is K t p b (λ m. inserted U x k p C (b + m)) e f)
      ∙ boehm-deboor R K S t p b b₀ (λ m. C (b₀ + m)) (λ m. inserted U x k p C (b + m)) C e e₀ f g (λ m l. refl) (λ m l. refl)
      ∙ deboor-is (old-knots R K S in-range) t p b₀ (λ m. C (b₀ + m)) e₀ f₀
