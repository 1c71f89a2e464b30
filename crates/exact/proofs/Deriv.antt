-- First derivatives in the parameter: of the basis functions, by the rules for a sum and a product; of de Boor's recursion; of the quotient. Assumes nothing.
use mathlib.Core.Path.{◌≡◌, refl, sym, ◌∙◌, ap, ap₂}
use mathlib.Core.Logic.{◌≢◌, ◌⊎◌, inl, inr}
use mathlib.Core.List.{[], ◌∷◌}
use Prim.Native.Nat.{ℕ, zero, suc, ◌+◌, ◌≤◌, ◌<◌}
use native.Mathlib.Nat.{add-suc, suc-add}
use native.Mathlib.Omega.{arith}
use Rattle.exact.specs.Rational.{ℚ, ◌+q◌, ◌-q◌, ◌*q◌, ◌/q◌, negq, inv, q0, q1, ◌≤q◌, ◌<q◌, ofℕ}
use Rattle.exact.specs.Spline.{Σq, rise, fall, basis, Knots, dbasis, quotient, slope}
use Rattle.exact.proofs.Laws.{mul-inv, inv-0}
use Rattle.exact.proofs.Field.{qring, q-ring, q-combine, q-combine₂, zero-mul, pos-ne, div-eq, mul-ne-0, le-or-lt, ≤-antisym, <-≤-trans, le-sub, le-by, add-nonneg, div_is}
use Rattle.exact.proofs.Sum.{Σ-cong, Σ-shift, Σ-add}
use Rattle.exact.proofs.DeBoor.{basis-suc, basis-one, basis-low, basis-high, level, level-is, wide, fall-is, one-level}

-- c and its derivative d, of one level
unfoldable pub dlevel : (ℕ → ℚ) → ℚ → ℕ → ℕ → (ℕ → ℚ) → (ℕ → ℚ) → ℕ → ℚ
unfolding slope rise
dlevel U t k b c d m =
    (negq (slope U k (suc b + m)) *q c m +q (q1 -q rise U t k (suc b + m)) *q d m)
    +q (slope U k (suc b + m) *q c (suc m) +q rise U t k (suc b + m) *q d (suc m))

unfoldable pub ddeboor : (ℕ → ℚ) → ℚ → ℕ → ℕ → (ℕ → ℚ) → (ℕ → ℚ) → ℚ
unfolding level dlevel
ddeboor U t zero b c d = d 0
ddeboor U t (suc k) b c d = ddeboor U t k (suc b) (level U t k b c) (dlevel U t k b c d)

-- ---- it is the derivative: at t + h the function is N + h N' + h h (something)

pub rest : (ℕ → ℚ) → ℚ → ℚ → ℕ → ℕ → ℕ → ℚ
rest U t h s zero i = q0
rest U t h s (suc k) i =
    (rise U t k i *q rest U t h s k i +q slope U k i *q dbasis U t s k i +q h *q (slope U k i *q rest U t h s k i))
    +q (fall U t k (suc i) *q rest U t h s k (suc i) -q slope U k (suc i) *q dbasis U t s k (suc i) -q h *q (slope U k (suc i) *q rest U t h s k (suc i)))

rise-at : (U : ℕ → ℚ) (t h : ℚ) (k i : ℕ) → rise U (t +q h) k i ≡ rise U t k i +q h *q slope U k i
unfolding rise slope
rise-at U t h k i = q-ring (t ∷ h ∷ U i ∷ inv (U (i + suc k) -q U i) ∷ []) (search qring depth 20) tt

fall-at : (U : ℕ → ℚ) (t h : ℚ) (k i : ℕ) → fall U (t +q h) k i ≡ fall U t k i -q h *q slope U k i
unfolding fall slope
fall-at U t h k i = q-ring (t ∷ h ∷ U (i + suc k) ∷ inv (U (i + suc k) -q U i) ∷ []) (search qring depth 20) tt

step : (h r s f z N N' E M M' F : ℚ)
    → (r +q h *q s) *q (N +q h *q N' +q h *q h *q E) +q (f -q h *q z) *q (M +q h *q M' +q h *q h *q F)
    ≡ r *q N +q f *q M +q h *q ((s *q N +q r *q N') +q (negq z *q M +q f *q M'))
    +q h *q h *q ((r *q E +q s *q N' +q h *q (s *q E)) +q (f *q F -q z *q M' -q h *q (z *q F)))
step h r s f z N N' E M M' F = q-ring (h ∷ r ∷ s ∷ f ∷ z ∷ N ∷ N' ∷ E ∷ M ∷ M' ∷ F ∷ []) (search qring depth 20) tt

pub basis-at : (U : ℕ → ℚ) (t h : ℚ) (s k i : ℕ) → basis U (t +q h) s k i ≡ basis U t s k i +q h *q dbasis U t s k i +q h *q h *q rest U t h s k i
unfolding basis dbasis rest
basis-at U t h s zero i = q-ring (basis U t s zero i ∷ h ∷ []) (search qring depth 20) tt
basis-at U t h s (suc k) i = rw (rise-at U t h k i, fall-at U t h k (suc i), basis-at U t h s k i, basis-at U t h s k (suc i))
    (step h (rise U t k i) (slope U k i) (fall U t k (suc i)) (slope U k (suc i)) (basis U t s k i) (dbasis U t s k i) (rest U t h s k i)
    (basis U t s k (suc i)) (dbasis U t s k (suc i)) (rest U t h s k (suc i)))

-- ---- local support

four-zeros : (a x b y c z d w : ℚ) → x ≡ q0 → y ≡ q0 → z ≡ q0 → w ≡ q0 → (a *q x +q b *q y) +q (c *q z +q d *q w) ≡ q0
four-zeros a x b y c z d w h i j k = q-combine₂ a b h i (q-combine₂ c d j k (q-ring (a ∷ x ∷ b ∷ y ∷ c ∷ z ∷ d ∷ w ∷ []) (search qring depth 20) tt))

module _ (U : ℕ → ℚ) (t : ℚ) (s : ℕ) where
  pub dbasis-low : (k i : ℕ) → i + k < s → dbasis U t s k i ≡ q0
  unfolding dbasis
  dbasis-low zero i h = refl
  dbasis-low (suc k) i h = four-zeros _ _ _ _ _ _ _ _ (basis-low U t s k i (omega arith)) (dbasis-low k i (omega arith))
      (basis-low U t s k (suc i) (omega arith)) (dbasis-low k (suc i) (omega arith))

  pub dbasis-high : (k i : ℕ) → s < i → dbasis U t s k i ≡ q0
  unfolding dbasis
  dbasis-high zero i h = refl
  dbasis-high (suc k) i h = four-zeros _ _ _ _ _ _ _ _ (basis-high U t s k i h) (dbasis-high k i h)
      (basis-high U t s k (suc i) (omega arith)) (dbasis-high k (suc i) (omega arith))

  pub dbasis-suc : (k i : ℕ) → dbasis U t s (suc k) i ≡ (slope U k i *q basis U t s k i +q rise U t k i *q dbasis U t s k i)
      +q (negq (slope U k (suc i)) *q basis U t s k (suc i) +q fall U t k (suc i) *q dbasis U t s k (suc i))
  unfolding dbasis
  dbasis-suc k i = refl

pub dlevel-is : (U : ℕ → ℚ) (t : ℚ) (k b : ℕ) (c d : ℕ → ℚ) (m : ℕ)
    → dlevel U t k b c d m ≡ (negq (slope U k (suc (b + m))) *q c m +q (q1 -q rise U t k (suc (b + m))) *q d m)
    +q (slope U k (suc (b + m)) *q c (suc m) +q rise U t k (suc (b + m)) *q d (suc m))
unfolding dlevel
dlevel-is U t k b c d m = rw (suc-add b m)

-- ---- de Boor's recursion carried on the derivatives is the derivative of the sum

-- the sum's derivative, where the coefficients c have the derivatives d
unfoldable pub dcurve : (ℕ → ℚ) → ℚ → ℕ → ℕ → ℕ → (ℕ → ℚ) → (ℕ → ℚ) → ℚ
unfolding Σq dbasis
dcurve U t s p b c d = Σq (suc p) (λ m. dbasis U t s p (b + m) *q c m) +q Σq (suc p) (λ m. basis U t s p (b + m) *q d m)

ends : (a x a' x' b y b' y' m c d : ℚ) → x ≡ q0 → x' ≡ q0 → y ≡ q0 → y' ≡ q0
    → (a *q x +q a' *q x') *q c +q m +q (b *q y +q b' *q y') *q d ≡ m
ends a x a' x' b y b' y' m c d h h' k k' =
    q-combine₂ (a *q c) (a' *q c) h h' (q-combine₂ (b *q d) (b' *q d) k k'
    (q-ring (a ∷ x ∷ a' ∷ x' ∷ b ∷ y ∷ b' ∷ y' ∷ m ∷ c ∷ d ∷ []) (search qring depth 20) tt))

one-term : (N N' f r z x y : ℚ) → f ≡ q1 -q r
    → (negq z *q N +q f *q N') *q x +q (z *q N +q r *q N') *q y ≡ N' *q ((q1 -q r) *q x +q r *q y) +q N *q (z *q (y -q x))
one-term N N' f r z x y h = q-combine (N' *q x) h (q-ring (N ∷ N' ∷ f ∷ r ∷ z ∷ x ∷ y ∷ []) (search qring depth 20) tt)

last-term : (N z r x y d e : ℚ) → N *q (z *q (y -q x)) +q N *q ((q1 -q r) *q d +q r *q e)
    ≡ N *q ((negq z *q x +q (q1 -q r) *q d) +q (z *q y +q r *q e))
last-term N z r x y d e = q-ring (N ∷ z ∷ r ∷ x ∷ y ∷ d ∷ e ∷ []) (search qring depth 20) tt

module _ {U : ℕ → ℚ} {n s : ℕ} (K : Knots U n s) (t : ℚ) where
  first-half : (k b : ℕ) (c : ℕ → ℚ) → b + suc k ≡ s → s + suc k < n
      → Σq (suc (suc k)) (λ m. dbasis U t s (suc k) (b + m) *q c m)
      ≡ Σq (suc k) (λ m. dbasis U t s k (suc b + m) *q level U t k b c m +q basis U t s k (suc b + m) *q (slope U k (suc b + m) *q (c (suc m) -q c m)))
  first-half k b c e f =
      let A : ℕ → ℚ = λ m. slope U k (b + m) *q basis U t s k (b + m) +q rise U t k (b + m) *q dbasis U t s k (b + m) in
      let B : ℕ → ℚ = λ m. negq (slope U k (b + m)) *q basis U t s k (b + m) +q fall U t k (b + m) *q dbasis U t s k (b + m) in
      Σ-cong (suc (suc k)) (λ m l. rw (add-suc b m) (ap (λ x. x *q c m) (dbasis-suc U t s k (b + m))))
      ∙ Σ-shift (suc k) A B c
      ∙ ends _ _ _ _ _ _ _ _ _ _ _ (basis-low U t s k (b + 0) (omega arith)) (dbasis-low U t s k (b + 0) (omega arith))
      (basis-high U t s k (b + suc (suc k)) (omega arith)) (dbasis-high U t s k (b + suc (suc k)) (omega arith))
      ∙ Σ-cong (suc k) (λ m l. rw (add-suc b m, suc-add b m, level-is)
      (one-term (basis U t s k (suc (b + m))) (dbasis U t s k (suc (b + m))) _ (rise U t k (suc (b + m))) (slope U k (suc (b + m))) (c m) (c (suc m))
      (fall-is U t k (suc (b + m)) (pos-ne (wide K k (suc (b + m)) (omega arith) (omega arith) (omega arith))))))

  regroup : (x y z w : ℚ) → x +q y +q z ≡ x +q (y +q z)
  regroup x y z w = q-ring (x ∷ y ∷ z ∷ []) (search qring depth 20) tt

  pub one-dlevel : (k b : ℕ) (c d : ℕ → ℚ) → b + suc k ≡ s → s + suc k < n
      → dcurve U t s (suc k) b c d ≡ dcurve U t s k (suc b) (level U t k b c) (dlevel U t k b c d)
  unfolding dcurve
  one-dlevel k b c d e f =
      ap₂ ◌+q◌ (first-half k b c e f ∙ Σ-add (suc k) _ _) (one-level K t k b d e f)
      ∙ regroup _ _ _ q0
      ∙ ap (λ x. Σq (suc k) (λ m. dbasis U t s k (suc b + m) *q level U t k b c m) +q x)
      (sym (Σ-add (suc k) _ _) ∙ Σ-cong (suc k) (λ m l. rw (suc-add b m, level-is, dlevel-is)
      (last-term (basis U t s k (suc (b + m))) (slope U k (suc (b + m))) (rise U t k (suc (b + m))) (c m) (c (suc m)) (d m) (d (suc m)))))

  degree-0 : (x c y : ℚ) → x ≡ q1 → y ≡ (q0 +q q0 *q c) +q (q0 +q x *q y)
  degree-0 x c y h = q-combine (negq y) h (q-ring (x ∷ c ∷ y ∷ []) (search qring depth 20) tt)

  pub ddeboor-is : (p b : ℕ) (c d : ℕ → ℚ) → b + p ≡ s → s + p < n → ddeboor U t p b c d ≡ dcurve U t s p b c d
  unfolding ddeboor dcurve
  ddeboor-is zero b c d e f = degree-0 (basis U t s 0 (b + 0)) (c 0) (d 0) (basis-one U t s (b + 0) e)
  ddeboor-is (suc k) b c d e f = ddeboor-is k (suc b) (level U t k b c) (dlevel U t k b c d) (omega arith) (omega arith) ∙ sym (one-dlevel k b c d e f)

-- ---- the derivative of a quotient, relative to a reference and with scaled weights

-- with X − r W and W, both times q, for X and W
pub quotient-relative : (X X' W W' r q : ℚ) → q ≢ q0 → W ≢ q0
    → quotient (q *q (X -q r *q W)) (q *q (X' -q r *q W')) (q *q W) (q *q W') ≡ quotient X X' W W'
unfolding quotient
quotient-relative X X' W W' r q n m =
    let e : q *q (X -q r *q W) /q (q *q W) ≡ X /q W -q r =
    div-eq {z = X /q W -q r} (mul-ne-0 n m) (q-combine (q *q X) (mul-inv W m) (q-ring (X ∷ W ∷ r ∷ q ∷ inv W ∷ []) (search qring depth 20) tt)) in
    rw e (div-eq {z = (X' -q X /q W *q W') /q W} (mul-ne-0 n m)
    (q-combine (q *q (X' -q X *q inv W *q W')) (mul-inv W m) (q-ring (X ∷ X' ∷ W ∷ W' ∷ r ∷ q ∷ inv W ∷ []) (search qring depth 20) tt)))

-- ---- the textbook's formula (The NURBS Book, 2.7): N' of degree k + 1 is k + 1 times a difference

unfoldable pub formula : (ℕ → ℚ) → ℚ → ℕ → ℕ → ℕ → ℚ
unfolding ofℕ slope basis
formula U t s k i = ofℕ (suc k) *q (slope U k i *q basis U t s k i -q slope U k (suc i) *q basis U t s k (suc i))

-- y is 1 / C, and C is 0 or A and B are not
inverses : (A B C : ℚ) → q0 ≤q C → C ≤q A → C ≤q B → inv C *q (A *q inv A) ≡ inv C *q (B *q inv B)
inverses A B C h k l = go (le-or-lt C q0)
  where
    go : (C ≤q q0) ⊎ (q0 <q C) → inv C *q (A *q inv A) ≡ inv C *q (B *q inv B)
    go (inl z) = let e : inv C ≡ q0 = ap inv (≤-antisym z h) ∙ inv-0 in rw e (zero-mul _ ∙ sym (zero-mul _))
    go (inr z) = ap (λ x. inv C *q x) (mul-inv A (pos-ne (<-≤-trans z k)) ∙ sym (mul-inv B (pos-ne (<-≤-trans z l))))

formula-step : (P t u u' v v' a a' x y z N M L : ℚ) → y *q ((v -q u) *q a) ≡ y *q ((v' -q u') *q a')
    → (a *q ((t -q u) *q x *q N +q (v -q t) *q y *q M) +q (t -q u) *q a *q (P *q (x *q N -q y *q M)))
    +q (negq a' *q ((t -q u') *q y *q M +q (v' -q t) *q z *q L) +q (v' -q t) *q a' *q (P *q (y *q M -q z *q L)))
    ≡ (P +q q1) *q (a *q ((t -q u) *q x *q N +q (v -q t) *q y *q M) -q a' *q ((t -q u') *q y *q M +q (v' -q t) *q z *q L))
formula-step P t u u' v v' a a' x y z N M L h =
    q-combine (negq (P *q M)) h (q-ring (P ∷ t ∷ u ∷ u' ∷ v ∷ v' ∷ a ∷ a' ∷ x ∷ y ∷ z ∷ N ∷ M ∷ L ∷ []) (search qring depth 20) tt)

rise-slope : (U : ℕ → ℚ) (t : ℚ) (k i : ℕ) → rise U t k i ≡ (t -q U i) *q slope U k i
unfolding rise slope
rise-slope U t k i = div_is _ _

fall-slope : (U : ℕ → ℚ) (t : ℚ) (k i : ℕ) → fall U t k i ≡ (U (i + suc k) -q t) *q slope U k i
unfolding fall slope
fall-slope U t k i = div_is _ _

module _ {U : ℕ → ℚ} {n : ℕ} (mono : (i j : ℕ) → i ≤ j → j < n → U i ≤q U j) (t : ℚ) (s : ℕ) where
  formula-is : (k i : ℕ) → formula U t s k i ≡ ofℕ (suc k) *q (slope U k i *q basis U t s k i -q slope U k (suc i) *q basis U t s k (suc i))
  unfolding formula
  formula-is k i = refl

  ofℕ-suc : (k : ℕ) → ofℕ (suc k) ≡ ofℕ k +q q1
  unfolding ofℕ
  ofℕ-suc k = refl

  -- a narrower pair of knots inside two wider ones
  narrow : (i j i' j' : ℕ) → i ≤ i' → i' ≤ j' → j' ≤ j → j < n → U j' -q U i' ≤q U j -q U i
  narrow i j i' j' a b c d = le-by (add-nonneg (le-sub (mono i i' a (omega arith))) (le-sub (mono j' j c d)))
      (q-ring (U i ∷ U j ∷ U i' ∷ U j' ∷ []) (search qring depth 20) tt)

  known : (k i : ℕ) → suc i + suc (suc k) < n
      → slope U k (suc i) *q ((U (suc i + suc k) -q U i) *q slope U (suc k) i)
      ≡ slope U k (suc i) *q ((U (suc (suc i) + suc k) -q U (suc i)) *q slope U (suc k) (suc i))
  unfolding slope
  known k i h =
      let e : suc i + suc k ≡ i + suc (suc k) = omega arith in
      let f : suc (suc i) + suc k ≡ suc i + suc (suc k) = omega arith in
      ap (λ z. inv (U (suc i + suc k) -q U (suc i)) *q ((U z -q U i) *q slope U (suc k) i)) e
      ∙ inverses (U (i + suc (suc k)) -q U i) (U (suc i + suc (suc k)) -q U (suc i)) (U (suc i + suc k) -q U (suc i))
      (le-sub (mono (suc i) (suc i + suc k) (omega arith) (omega arith)))
      (narrow i (i + suc (suc k)) (suc i) (suc i + suc k) (omega arith) (omega arith) (omega arith) (omega arith))
      (narrow (suc i) (suc i + suc (suc k)) (suc i) (suc i + suc k) (omega arith) (omega arith) (omega arith) (omega arith))
      ∙ ap (λ z. inv (U (suc i + suc k) -q U (suc i)) *q ((U z -q U (suc i)) *q slope U (suc k) (suc i))) (sym f)

  assemble : (k i : ℕ) → suc i + suc (suc k) < n → dbasis U t s (suc k) i ≡ formula U t s k i → dbasis U t s (suc k) (suc i) ≡ formula U t s k (suc i)
      → dbasis U t s (suc (suc k)) i ≡ formula U t s (suc k) i
  assemble k i h p q =
      let f : suc i + suc (suc k) ≡ suc (suc i) + suc k = omega arith in
      rw (
        dbasis-suc U t s (suc k) i,
        p,
        q,
        formula-is (suc k) i,
        formula-is k i,
        formula-is k (suc i),
        ofℕ-suc (suc k),
        basis-suc U t s k i,
        basis-suc U t s k (suc i),
        rise-slope U t (suc k) i,
        fall-slope U t (suc k) (suc i),
        rise-slope U t k i,
        fall-slope U t k (suc i),
        rise-slope U t k (suc i),
        fall-slope U t k (suc (suc i)),
        f,
      )
      (formula-step (ofℕ (suc k)) t (U i) (U (suc i)) (U (suc i + suc k)) (U (suc (suc i) + suc k)) (slope U (suc k) i) (slope U (suc k) (suc i))
      (slope U k i) (slope U k (suc i)) (slope U k (suc (suc i))) (basis U t s k i) (basis U t s k (suc i)) (basis U t s k (suc (suc i))) (known k i h))

  pub dbasis-formula : (k i : ℕ) → suc i + suc k < n → dbasis U t s (suc k) i ≡ formula U t s k i
  unfolding dbasis formula
  dbasis-formula zero i h = q-ring (slope U 0 i ∷ basis U t s 0 i ∷ rise U t 0 i ∷ slope U 0 (suc i) ∷ basis U t s 0 (suc i) ∷ fall U t 0 (suc i) ∷ []) (search qring depth 20) tt
  dbasis-formula (suc k) i h = assemble k i h (dbasis-formula k i (omega arith)) (dbasis-formula k (suc i) (omega arith))
