-- De Boor's recursion is the sum of the basis functions; their local support, that they are not negative and add up to 1; the convex hull. Assumes nothing.
-- U is the knots, as a function of the index; t the parameter; s the span; k a degree; i the index of a basis function.
use mathlib.Core.Path.{◌≡◌, refl, sym, ◌∙◌, ap, ap₂, subst}
use mathlib.Core.Bool.{Bool, true, false, cond, not}
use mathlib.Core.Logic.{◌≢◌}
use mathlib.Core.List.{[], ◌∷◌}
use Prim.Native.Nat.{ℕ, zero, suc, ◌+◌, ◌-◌, ◌≤◌, ◌<◌}
use native.Mathlib.Nat.{add-suc, suc-add, add-zero}
use native.Mathlib.Omega.{arith}
use lib.Dec.{T, eqb, eqb→eq, eqb_refl, leb, leb→le, nleb→lt, ltb, ltb→lt, nltb→le}
use Rattle.exact.specs.Rational.{ℚ, ◌+q◌, ◌-q◌, ◌*q◌, ◌/q◌, negq, inv, q0, q1, ◌≤q◌, ◌<q◌}
use Rattle.exact.specs.Spline.{Σq, Knots, basis, fall, rise}
use Rattle.exact.proofs.Laws.{mul-inv}
use Rattle.exact.proofs.Field.{qring, q-ring, q-combine, q-combine₂, mul-zero, mul-one, div-eq, mul-ne-0, inv-ne-0, ≤-refl, ≤_trans, ≤-<-trans, <-≤-trans, lt-sub, le-sub}
use Rattle.exact.proofs.Field.{le-by, pos-ne, div-nonneg, div-le-1, add-nonneg, mul-nonneg, lt→le, q0<q1}
use Rattle.exact.proofs.Sum.{Σ-cong, Σ-shift, Σ-mul, Σ-add}

-- the sum of the p + 1 functions from b, with coefficients c 0, .., c p
unfoldable pub curve : (ℕ → ℚ) → ℚ → ℕ → ℕ → ℕ → (ℕ → ℚ) → ℚ
unfolding Σq basis
curve U t s p b c = Σq (suc p) (λ m. basis U t s p (b + m) *q c m)

-- ---- de Boor

-- one level: degree k + 1, the active points from b. The place m is the source's work[j], j the level + m: its left knot has the index
-- span - degree + j, its right knot the index span + j - level + 1
unfoldable pub level : (ℕ → ℚ) → ℚ → ℕ → ℕ → (ℕ → ℚ) → ℕ → ℚ
unfolding rise
level U t k b c m = (q1 -q rise U t k (suc b + m)) *q c m +q rise U t k (suc b + m) *q c (suc m)

unfoldable pub deboor : (ℕ → ℚ) → ℚ → ℕ → ℕ → (ℕ → ℚ) → ℚ
unfolding level
deboor U t zero b c = c 0
deboor U t (suc k) b c = deboor U t k (suc b) (level U t k b c)

pub level-is : (U : ℕ → ℚ) (t : ℚ) (k b : ℕ) (c : ℕ → ℚ) (m : ℕ)
    → level U t k b c m ≡ (q1 -q rise U t k (suc (b + m))) *q c m +q rise U t k (suc (b + m)) *q c (suc m)
unfolding level
level-is U t k b c m = rw (suc-add b m)

-- ---- local support

eqb_no : (i s : ℕ) → i ≢ s → cond (eqb i s) q1 q0 ≡ q0
eqb_no i s n = go (eqb i s) (eqb→eq i s)
  where
    go : (b : Bool) → (T b → i ≡ s) → cond b q1 q0 ≡ q0
    go true f = absurd (n (f tt))
    go false f = refl

eqb_yes : (i s : ℕ) → i ≡ s → cond (eqb i s) q1 q0 ≡ q1
eqb_yes i s e = go (eqb i s) (subst (λ j. T (eqb i j)) e (eqb_refl i))
  where
    go : (b : Bool) → T b → cond b q1 q0 ≡ q1
    go true h = refl
    go false h = absurd h

two-zeros : (a x b y : ℚ) → x ≡ q0 → y ≡ q0 → a *q x +q b *q y ≡ q0
two-zeros a x b y h k = q-combine₂ a b h k (q-ring (a ∷ x ∷ b ∷ y ∷ []) (search qring depth 20) tt)

module _ (U : ℕ → ℚ) (t : ℚ) (s : ℕ) where
  pub basis-suc : (k i : ℕ) → basis U t s (suc k) i ≡ rise U t k i *q basis U t s k i +q fall U t k (suc i) *q basis U t s k (suc i)
  unfolding basis
  basis-suc k i = refl

  pub basis-one : (i : ℕ) → i ≡ s → basis U t s 0 i ≡ q1
  unfolding basis
  basis-one i e = eqb_yes i s e

  pub basis-low : (k i : ℕ) → i + k < s → basis U t s k i ≡ q0
  unfolding basis
  basis-low zero i h = eqb_no i s (omega arith)
  basis-low (suc k) i h = two-zeros _ _ _ _ (basis-low k i (omega arith)) (basis-low k (suc i) (omega arith))

  pub basis-high : (k i : ℕ) → s < i → basis U t s k i ≡ q0
  unfolding basis
  basis-high zero i h = eqb_no i s (omega arith)
  basis-high (suc k) i h = two-zeros _ _ _ _ (basis-high k i h) (basis-high k (suc i) (omega arith))

-- it is enough that no knot exceeds the next
pub mono-of-steps : (U : ℕ → ℚ) (n : ℕ) → ((i : ℕ) → suc i < n → U i ≤q U (suc i)) → (i j : ℕ) → i ≤ j → j < n → U i ≤q U j
mono-of-steps U n h i j a b =
    let e : i + (j - i) ≡ j = omega arith in
    subst (λ k. U i ≤q U k) e (go (j - i) (omega arith))
  where
    go : (d : ℕ) → i + d < n → U i ≤q U (i + d)
    go zero l = rw (add-zero i) (≤-refl (U i))
    go (suc d) l = ≤_trans (go d (omega arith)) (rw (add-suc i d) (h (i + d) (omega arith)))

module _ {U : ℕ → ℚ} {n s : ℕ} (K : Knots U n s) where
  -- each denominator of the triangle is positive
  pub wide : (k i : ℕ) → i ≤ s → s < i + suc k → i + suc k < n → q0 <q U (i + suc k) -q U i
  wide k i a b c = lt-sub (≤-<-trans (K.mono i s a (omega arith)) (<-≤-trans K.gap (K.mono (suc s) (i + suc k) b c)))

pub fall-is : (U : ℕ → ℚ) (t : ℚ) (k i : ℕ) → U (i + suc k) -q U i ≢ q0 → fall U t k i ≡ q1 -q rise U t k i
unfolding fall rise
fall-is U t k i h =
    q-combine q1 (mul-inv (U (i + suc k) -q U i) h) (q-ring (t ∷ U i ∷ U (i + suc k) ∷ inv (U (i + suc k) -q U i) ∷ []) (search qring depth 20) tt)

-- ---- de Boor's recursion is the sum of the basis functions

module _ {U : ℕ → ℚ} {n s : ℕ} (K : Knots U n s) (t : ℚ) where
  one-term : (N f r x y : ℚ) → f ≡ q1 -q r → f *q N *q x +q r *q N *q y ≡ N *q ((q1 -q r) *q x +q r *q y)
  one-term N f r x y h = q-combine (N *q x) h (q-ring (N ∷ f ∷ r ∷ x ∷ y ∷ []) (search qring depth 20) tt)

  ends : (a x b y m c d : ℚ) → x ≡ q0 → y ≡ q0 → a *q x *q c +q m +q b *q y *q d ≡ m
  ends a x b y m c d h k = q-combine₂ (a *q c) (b *q d) h k (q-ring (a ∷ x ∷ b ∷ y ∷ m ∷ c ∷ d ∷ []) (search qring depth 20) tt)

  pub one-level : (k b : ℕ) (c : ℕ → ℚ) → b + suc k ≡ s → s + suc k < n
      → Σq (suc (suc k)) (λ m. basis U t s (suc k) (b + m) *q c m) ≡ Σq (suc k) (λ m. basis U t s k (suc b + m) *q level U t k b c m)
  one-level k b c e f =
      let A : ℕ → ℚ = λ m. rise U t k (b + m) *q basis U t s k (b + m) in
      let B : ℕ → ℚ = λ m. fall U t k (b + m) *q basis U t s k (b + m) in
      Σ-cong (suc (suc k)) (λ m l. rw (add-suc b m) (ap (λ x. x *q c m) (basis-suc U t s k (b + m))))
      ∙ Σ-shift (suc k) A B c
      ∙ ends _ _ _ _ _ _ _ (basis-low U t s k (b + 0) (omega arith)) (basis-high U t s k (b + suc (suc k)) (omega arith))
      ∙ Σ-cong (suc k) (λ m l. rw (add-suc b m, suc-add b m, level-is)
      (one-term (basis U t s k (suc (b + m))) _ (rise U t k (suc (b + m))) (c m) (c (suc m))
      (fall-is U t k (suc (b + m)) (pos-ne (wide K k (suc (b + m)) (omega arith) (omega arith) (omega arith))))))

  degree-0 : (x y : ℚ) → x ≡ q1 → y ≡ q0 +q x *q y
  degree-0 x y h = q-combine (negq y) h (q-ring (x ∷ y ∷ []) (search qring depth 20) tt)

  -- de Boor's result is the curve's sum
  pub deboor-is : (p b : ℕ) (c : ℕ → ℚ) → b + p ≡ s → s + p < n → deboor U t p b c ≡ curve U t s p b c
  unfolding deboor curve
  deboor-is zero b c e f = degree-0 (cond (eqb (b + 0) s) q1 q0) (c 0) (eqb_yes (b + 0) s e)
  deboor-is (suc k) b c e f = deboor-is k (suc b) (level U t k b c) (omega arith) (omega arith) ∙ sym (one-level k b c e f)

-- ---- the convex hull

pub mix-low : (a r x y : ℚ) → q0 ≤q r → r ≤q q1 → a ≤q x → a ≤q y → a ≤q (q1 -q r) *q x +q r *q y
mix-low a r x y h k u v = le-by (add-nonneg (mul-nonneg (le-sub k) (le-sub u)) (mul-nonneg h (le-sub v)))
    (q-ring (a ∷ r ∷ x ∷ y ∷ []) (search qring depth 20) tt)

mix-high : (a r x y : ℚ) → q0 ≤q r → r ≤q q1 → x ≤q a → y ≤q a → (q1 -q r) *q x +q r *q y ≤q a
mix-high a r x y h k u v = le-by (add-nonneg (mul-nonneg (le-sub k) (le-sub u)) (mul-nonneg h (le-sub v)))
    (q-ring (a ∷ r ∷ x ∷ y ∷ []) (search qring depth 20) tt)

module _ {U : ℕ → ℚ} {n s : ℕ} (K : Knots U n s) {t : ℚ} (above : U s ≤q t) (below : t ≤q U (suc s)) where
  pub rise-nonneg : (k i : ℕ) → i ≤ s → s < i + suc k → i + suc k < n → q0 ≤q rise U t k i
  unfolding rise
  rise-nonneg k i a b c = div-nonneg (le-sub (≤_trans (K.mono i s a (omega arith)) above)) (wide K k i a b c)

  pub rise-le-1 : (k i : ℕ) → i ≤ s → s < i + suc k → i + suc k < n → rise U t k i ≤q q1
  unfolding rise
  rise-le-1 k i a b c = div-le-1 (le-by (le-sub (≤_trans below (K.mono (suc s) (i + suc k) b c)))
      (q-ring (t ∷ U i ∷ U (i + suc k) ∷ []) (search qring depth 20) tt)) (wide K k i a b c)

  pub deboor-low : (a : ℚ) (p b : ℕ) (c : ℕ → ℚ) → b + p ≡ s → s + p < n → ((m : ℕ) → m ≤ p → a ≤q c m) → a ≤q deboor U t p b c
  unfolding deboor
  deboor-low a zero b c e f h = h 0 (omega arith)
  deboor-low a (suc k) b c e f h = deboor-low a k (suc b) (level U t k b c) (omega arith) (omega arith)
      (λ m l. rw level-is (mix-low a _ _ _ (rise-nonneg k (suc (b + m)) (omega arith) (omega arith) (omega arith))
      (rise-le-1 k (suc (b + m)) (omega arith) (omega arith) (omega arith)) (h m (omega arith)) (h (suc m) (omega arith))))

  pub deboor-high : (a : ℚ) (p b : ℕ) (c : ℕ → ℚ) → b + p ≡ s → s + p < n → ((m : ℕ) → m ≤ p → c m ≤q a) → deboor U t p b c ≤q a
  unfolding deboor
  deboor-high a zero b c e f h = h 0 (omega arith)
  deboor-high a (suc k) b c e f h = deboor-high a k (suc b) (level U t k b c) (omega arith) (omega arith)
      (λ m l. rw level-is (mix-high a _ _ _ (rise-nonneg k (suc (b + m)) (omega arith) (omega arith) (omega arith))
      (rise-le-1 k (suc (b + m)) (omega arith) (omega arith) (omega arith)) (h m (omega arith)) (h (suc m) (omega arith))))

-- ---- the basis functions are not negative

module _ {U : ℕ → ℚ} {n s : ℕ} (K : Knots U n s) {t : ℚ} (above : U s ≤q t) (below : t ≤q U (suc s)) where
  pub fall-nonneg : (k i : ℕ) → i ≤ s → s < i + suc k → i + suc k < n → q0 ≤q fall U t k i
  fall-nonneg k i a b c = rw (fall-is U t k i (pos-ne (wide K k i a b c))) (le-sub (rise-le-1 K above below k i a b c))

  -- a product whose second factor is 0, or both of whose factors are not negative
  off : (x y : ℚ) → y ≡ q0 → q0 ≤q x *q y
  off x y e = rw (e, mul-zero x) (≤-refl q0)

  where-low : (k i : ℕ) → i + suc k < n → (x : ℚ) → (i ≤ s → s < i + suc k → q0 ≤q x) → q0 ≤q basis U t s k i → q0 ≤q x *q basis U t s k i
  where-low k i c x f g = go (leb i s) (leb→le i s) (nleb→lt i s) (ltb s (i + suc k)) (ltb→lt s (i + suc k)) (nltb→le s (i + suc k))
    where
      go : (u : Bool) → (T u → i ≤ s) → (T (not u) → s < i) → (v : Bool) → (T v → s < i + suc k) → (T (not v) → i + suc k ≤ s) → q0 ≤q x *q basis U t s k i
      go false a a' v b b' = let z : s < i = a' tt in off x (basis U t s k i) (basis-high U t s k i z)
      go true a a' false b b' = let z : i + suc k ≤ s = b' tt in off x (basis U t s k i) (basis-low U t s k i (omega arith))
      go true a a' true b b' = mul-nonneg (f (a tt) (b tt)) g

  pub basis-nonneg : (k i : ℕ) → i + suc k < n → q0 ≤q basis U t s k i
  unfolding basis
  basis-nonneg zero i c = go (eqb i s)
    where
      go : (b : Bool) → q0 ≤q cond b q1 q0
      go true = lt→le q0<q1
      go false = ≤-refl q0
  basis-nonneg (suc k) i c = add-nonneg
      (where-low k i (omega arith) (rise U t k i) (λ a b. rise-nonneg K above below k i a b (omega arith)) (basis-nonneg k i (omega arith)))
      (where-low k (suc i) (omega arith) (fall U t k (suc i)) (λ a b. fall-nonneg k (suc i) a b (omega arith)) (basis-nonneg k (suc i) (omega arith)))

-- ---- the basis functions add up to 1

pub deboor-const : (U : ℕ → ℚ) (t : ℚ) (a : ℚ) (p b : ℕ) (c : ℕ → ℚ) → ((m : ℕ) → c m ≡ a) → deboor U t p b c ≡ a
unfolding deboor
deboor-const U t a zero b c h = h 0
deboor-const U t a (suc k) b c h = deboor-const U t a k (suc b) (level U t k b c)
    (λ m. rw (level-is, h m, h (suc m)) (q-ring (a ∷ rise U t k (suc (b + m)) ∷ []) (search qring depth 20) tt))

module _ {U : ℕ → ℚ} {n s : ℕ} (K : Knots U n s) (t : ℚ) where
  pub unity : (p b : ℕ) → b + p ≡ s → s + p < n → Σq (suc p) (λ m. basis U t s p (b + m)) ≡ q1
  unfolding curve
  unity p b e f = Σ-cong (suc p) (λ m l. sym (mul-one (basis U t s p (b + m))))
      ∙ sym (deboor-is K t p b (λ m. q1) e f) ∙ deboor-const U t q1 p b (λ m. q1) (λ m. refl)

-- ---- the point of a rational curve, and the same relative to a reference and with scaled weights

unfoldable pub point : (ℕ → ℚ) → ℚ → ℕ → ℕ → ℕ → (ℕ → ℚ) → (ℕ → ℚ) → ℚ
unfolding curve
point U t s p b w P = curve U t s p b (λ m. w m *q P m) /q curve U t s p b w

pub relative : (X W r q X' W' : ℚ) → q ≢ q0 → W ≢ q0 → W' ≡ q *q W → X' ≡ q *q X +q negq (r *q q) *q W → X' /q W' +q r ≡ X /q W
relative X W r q X' W' n m e f =
    ap (λ x. x +q r) (div-eq {z = X /q W -q r} (λ z. mul-ne-0 n m (sym e ∙ z))
    (rw (e, f) (q-combine (q *q X) (mul-inv W m) (q-ring (X ∷ W ∷ r ∷ q ∷ inv W ∷ []) (search qring depth 20) tt))))
    ∙ q-ring (X ∷ r ∷ inv W ∷ []) (search qring depth 20) tt

module _ (U : ℕ → ℚ) (t : ℚ) (s p b : ℕ) where
  pub curve-mul : (a : ℚ) (c : ℕ → ℚ) → curve U t s p b (λ m. a *q c m) ≡ a *q curve U t s p b c
  unfolding curve
  curve-mul a c = Σ-cong (suc p) (λ m l. q-ring (a ∷ basis U t s p (b + m) ∷ c m ∷ []) (search qring depth 20) tt)
      ∙ Σ-mul (suc p) a (λ m. basis U t s p (b + m) *q c m)

  pub curve-add : (c d : ℕ → ℚ) → curve U t s p b (λ m. c m +q d m) ≡ curve U t s p b c +q curve U t s p b d
  unfolding curve
  curve-add c d = Σ-cong (suc p) (λ m l. q-ring (basis U t s p (b + m) ∷ c m ∷ d m ∷ []) (search qring depth 20) tt)
      ∙ Σ-add (suc p) (λ m. basis U t s p (b + m) *q c m) (λ m. basis U t s p (b + m) *q d m)

  pub curve-cong : {c d : ℕ → ℚ} → ((m : ℕ) → c m ≡ d m) → curve U t s p b c ≡ curve U t s p b d
  unfolding curve
  curve-cong h = Σ-cong (suc p) (λ m l. ap (λ x. basis U t s p (b + m) *q x) (h m))

  pub point-is : (w P : ℕ → ℚ) → point U t s p b w P ≡ curve U t s p b (λ m. w m *q P m) /q curve U t s p b w
  unfolding point
  point-is w P = refl

  pub point-relative : (w P : ℕ → ℚ) (r σ : ℚ) → σ ≢ q0 → curve U t s p b w ≢ q0
      → curve U t s p b (λ m. (P m -q r) *q (w m /q σ)) /q curve U t s p b (λ m. w m /q σ) +q r ≡ point U t s p b w P
  point-relative w P r σ n m =
      relative (curve U t s p b (λ m. w m *q P m)) (curve U t s p b w) r (inv σ) _ _ (inv-ne-0 n) m
      (curve-cong (λ m. q-ring (w m ∷ inv σ ∷ []) (search qring depth 20) tt) ∙ curve-mul (inv σ) w)
      (curve-cong (λ m. q-ring (P m ∷ r ∷ w m ∷ inv σ ∷ []) (search qring depth 20) tt)
      ∙ curve-add (λ m. inv σ *q (w m *q P m)) (λ m. negq (r *q inv σ) *q w m)
      ∙ ap₂ ◌+q◌ (curve-mul (inv σ) (λ m. w m *q P m)) (curve-mul (negq (r *q inv σ)) w))
      ∙ sym (point-is w P)
