-- A span between full knots is a segment in Bernstein's form, which de Casteljau's recursion works out; a degree more leaves it as it was. Assumes nothing.
-- u is the place in the segment, from 0 to 1; c the controls by index; d and p are degrees.
use mathlib.Core.Path.{◌≡◌, refl, sym, ◌∙◌, ap, ap₂, subst}
use mathlib.Core.Logic.{⊎_elim}
use mathlib.Core.List.{[], ◌∷◌}
use Prim.Native.Nat.{ℕ, zero, suc, ◌+◌, ◌≤◌, ◌<◌}
use native.Mathlib.Nat.{add-suc, suc-add, add-zero, zero-add}
use native.Mathlib.Omega.{arith}
use lib.Dec.{leb, leb→le, le→leb}
use Rattle.exact.specs.Rational.{ℚ, ◌+q◌, ◌-q◌, ◌*q◌, ◌/q◌, inv, q0, ◌≤q◌, ◌<q◌, ofℕ}
use Rattle.exact.specs.Spline.{rise, Knots, whole, exact}
use Rattle.exact.specs.Boehm.{mix}
use Rattle.exact.specs.Bernstein.{ends, Segment, raised, raised_to, raised_point}
use Rattle.exact.proofs.Laws.{mul-inv}
use Rattle.exact.proofs.Field.{qring, q-ring, q-combine, mul-cancel, ≤-eq, le-by, lt→le, q0<q1, <-≤-trans, pos-ne, div-nonneg, div-le-1}
use Rattle.exact.proofs.DeBoor.{level, level-is, deboor, deboor-is, mono-of-steps}
use Rattle.exact.proofs.Source.{cond_yes, cond_no}
use Rattle.exact.proofs.Curve.{whole-curve}
use Rattle.exact.proofs.Refined.{split}
use Rattle.exact.proofs.Shares.{mix-cong, mix-pos}
use Rattle.exact.proofs.OneKnot.{whole-cong, put_back}

-- ---- de Casteljau's recursion

unfoldable pub blended : ℚ → (ℕ → ℚ) → ℕ → ℚ
blended u c m = mix u (c m) (c (suc m))

unfoldable pub casteljau : ℚ → ℕ → (ℕ → ℚ) → ℚ
unfolding blended
casteljau u zero c = c 0
casteljau u (suc k) c = casteljau u k (blended u c)

module _ (u : ℚ) where
  pub casteljau-cong : (k : ℕ) {c d : ℕ → ℚ} → ((m : ℕ) → m ≤ k → c m ≡ d m) → casteljau u k c ≡ casteljau u k d
  unfolding casteljau
  casteljau-cong zero h = h 0 (omega arith)
  casteljau-cong (suc k) h = casteljau-cong k (λ m l. mix-cong refl (h m (omega arith)) (h (suc m) (omega arith)))

  casteljau-add : (k : ℕ) (c d : ℕ → ℚ) → casteljau u k (λ m. c m +q d m) ≡ casteljau u k c +q casteljau u k d
  unfolding casteljau
  casteljau-add zero c d = refl
  casteljau-add (suc k) c d = casteljau-cong k (λ m l. q-ring (u ∷ c m ∷ d m ∷ c (suc m) ∷ d (suc m) ∷ []) (search qring depth 20) tt)
      ∙ casteljau-add k (blended u c) (blended u d)

  casteljau-mul : (k : ℕ) (a : ℚ) (c : ℕ → ℚ) → casteljau u k (λ m. a *q c m) ≡ a *q casteljau u k c
  unfolding casteljau
  casteljau-mul zero a c = refl
  casteljau-mul (suc k) a c = casteljau-cong k (λ m l. q-ring (u ∷ a ∷ c m ∷ c (suc m) ∷ []) (search qring depth 20) tt) ∙ casteljau-mul k a (blended u c)

-- ---- whole numbers

ofℕ-step : (n : ℕ) → ofℕ n ≤q ofℕ (suc n)
unfolding ofℕ
ofℕ-step n = le-by (lt→le q0<q1) (q-ring (ofℕ n ∷ []) (search qring depth 20) tt)

pub ofℕ-mono : (i j : ℕ) → i ≤ j → ofℕ i ≤q ofℕ j
ofℕ-mono i j h = mono-of-steps ofℕ (suc j) (λ m l. ofℕ-step m) i j h (omega arith)

pub ofℕ-pos : (n : ℕ) → q0 <q ofℕ (suc n)
unfolding ofℕ
ofℕ-pos n = <-≤-trans q0<q1 (le-by (ofℕ-mono 0 n (omega arith)) (q-ring (ofℕ n ∷ []) (search qring depth 20) tt))

-- ---- a degree more

-- the raised controls times d + 1, with no cases
scaled : ℕ → (ℕ → ℚ) → ℕ → ℚ
scaled d c zero = ofℕ (suc d) *q c 0
scaled d c (suc j) = (ofℕ (suc d) -q ofℕ (suc j)) *q c (suc j) +q ofℕ (suc j) *q c j

times-share : (N J a b : ℚ) → q0 <q N → (N -q J) *q a +q J *q b ≡ N *q mix (J /q N) a b
times-share N J a b h = q-combine (J *q (a -q b)) (mul-inv N (pos-ne h)) (q-ring (N ∷ J ∷ a ∷ b ∷ inv N ∷ []) (search qring depth 20) tt)

scaled-is : (d : ℕ) (c : ℕ → ℚ) (i : ℕ) → i ≤ suc d → scaled d c i ≡ ofℕ (suc d) *q raised d c i
unfolding scaled raised
scaled-is d c zero h = refl
scaled-is d c (suc j) h = ⊎_elim
    (λ (g : suc j ≤ d). times-share (ofℕ (suc d)) (ofℕ (suc j)) (c (suc j)) (c j) (ofℕ-pos d) ∙ ap (λ x. ofℕ (suc d) *q x) (sym (cond_yes _ _ (leb (suc j) d) (le→leb (suc j) d g))))
    (λ (g : d < suc j).
    let e : j ≡ d = omega arith in
    ap (λ m. (ofℕ (suc d) -q ofℕ (suc m)) *q c (suc m) +q ofℕ (suc m) *q c m) e
    ∙ q-ring (ofℕ (suc d) ∷ c (suc d) ∷ c d ∷ []) (search qring depth 20) tt
    ∙ ap (λ x. ofℕ (suc d) *q x) (sym (cond_no _ _ (leb (suc j) d) (λ z. let y : suc j ≤ d = leb→le (suc j) d z in omega arith)))) (split (suc j) d)

module _ (u : ℚ) where
  -- a level after the degree more is the degree more after a level, and once the controls
  blended-scaled : (d : ℕ) (c : ℕ → ℚ) (m : ℕ) → blended u (scaled (suc d) c) m ≡ scaled d (blended u c) m +q c m
  unfolding blended scaled ofℕ
  blended-scaled d c zero = q-ring (u ∷ ofℕ d ∷ c 0 ∷ c 1 ∷ []) (search qring depth 20) tt
  blended-scaled d c (suc j) = q-ring (u ∷ ofℕ d ∷ ofℕ j ∷ c j ∷ c (suc j) ∷ c (suc (suc j)) ∷ []) (search qring depth 20) tt

  casteljau-scaled : (d : ℕ) (c : ℕ → ℚ) → casteljau u (suc d) (scaled d c) ≡ ofℕ (suc d) *q casteljau u d c
  unfolding casteljau scaled ofℕ
  casteljau-scaled zero c = q-ring (u ∷ c 0 ∷ c 1 ∷ []) (search qring depth 20) tt
  casteljau-scaled (suc d) c =
      casteljau-cong u (suc d) (λ m l. blended-scaled d c m)
      ∙ casteljau-add u (suc d) (scaled d (blended u c)) c
      ∙ ap (λ x. x +q casteljau u d (blended u c)) (casteljau-scaled d (blended u c))
      ∙ q-ring (ofℕ d ∷ casteljau u d (blended u c) ∷ []) (search qring depth 20) tt

  pub casteljau-raised : (d : ℕ) (c : ℕ → ℚ) → casteljau u (suc d) (raised d c) ≡ casteljau u d c
  casteljau-raised d c = mul-cancel (ofℕ (suc d)) (pos-ne (ofℕ-pos d))
      (sym (casteljau-mul u (suc d) (ofℕ (suc d)) (raised d c)) ∙ casteljau-cong u (suc d) (λ m l. sym (scaled-is d c m l)) ∙ casteljau-scaled d c)

  pub casteljau-raised_to : (d n : ℕ) (c : ℕ → ℚ) → casteljau u (d + n) (raised_to d n c) ≡ casteljau u d c
  unfolding raised_to
  casteljau-raised_to d zero c = ap (λ k. casteljau u k c) (add-zero d)
  casteljau-raised_to d (suc n) c = ap (λ k. casteljau u k (raised (d + n) (raised_to d n c))) (add-suc d n)
      ∙ casteljau-raised (d + n) (raised_to d n c) ∙ casteljau-raised_to d n c

-- ---- a segment's sum is de Casteljau's result

module _ {U : ℕ → ℚ} {a z : ℚ} {k b : ℕ} (S : Segment U a z (suc k) b) where
  segment-inner : Segment U a z k (suc b)
  segment-inner = record {
    left = λ i g h. rw (suc-add b i, ← add-suc b i) (S.left (suc i) (omega arith) (omega arith));
    right = λ i g h. rw (suc-add b i, ← add-suc b i) (S.right (suc i) (omega arith) (omega arith));
  }

  segment-rise : (t : ℚ) (m : ℕ) → m ≤ k → rise U t k (suc (b + m)) ≡ (t -q a) /q (z -q a)
  unfolding rise
  segment-rise t m h =
      let x : suc (b + m) ≡ b + suc m = omega arith in
      let y : suc (b + m) + suc k ≡ b + (suc m + suc k) = omega arith in
      ap₂ (λ v w. (t -q v) /q (w -q v)) (ap U x ∙ S.left (suc m) (omega arith) (omega arith)) (ap U y ∙ S.right (suc m + suc k) (omega arith) (omega arith))

deboor-segment : (p : ℕ) {U : ℕ → ℚ} {a z : ℚ} {b : ℕ} → Segment U a z p b → (t : ℚ) (c : ℕ → ℚ) → deboor U t p b c ≡ casteljau ((t -q a) /q (z -q a)) p c
unfolding deboor casteljau
deboor-segment zero S t c = refl
deboor-segment (suc k) {U} {a} {z} {b} S t c = deboor-segment k (segment-inner S) t (level U t k b c)
    ∙ casteljau-cong ((t -q a) /q (z -q a)) k (λ m l. level-is U t k b c m ∙ mix-cong (segment-rise S t m l) refl refl)

module _ (a z : ℚ) (p : ℕ) where
  ends-left : (i : ℕ) → i ≤ p → ends a z p i ≡ a
  unfolding ends
  ends-left i h = cond_yes _ _ (leb i p) (le→leb i p h)

  ends-right : (i : ℕ) → p < i → ends a z p i ≡ z
  unfolding ends
  ends-right i h = cond_no _ _ (leb i p) (λ x. let y : i ≤ p = leb→le i p x in omega arith)

  pub ends-segment : Segment (ends a z p) a z p 0
  ends-segment = record {
    left = λ i g h. rw (zero-add i) (ends-left i h);
    right = λ i g h. rw (zero-add i) (ends-right i g);
  }

  ends-knots : a <q z → (n : ℕ) → Knots (ends a z p) n p
  ends-knots lt n = record {
    mono = mono-of-steps (ends a z p) n (λ i l. ⊎_elim
        (λ (h : suc i ≤ p). ≤-eq (ends-left i (omega arith) ∙ sym (ends-left (suc i) h)))
        (λ (h : p < suc i). ⊎_elim
        (λ (g : i ≤ p). subst (λ y. y ≤q ends a z p (suc i)) (sym (ends-left i g)) (subst (λ y. a ≤q y) (sym (ends-right (suc i) h)) (lt→le lt)))
        (λ (g : p < i). ≤-eq (ends-right i g ∙ sym (ends-right (suc i) h))) (split i p)) (split (suc i) p));
    gap = subst (λ y. y <q ends a z p (suc p)) (sym (ends-left p (omega arith))) (subst (λ y. a <q y) (sym (ends-right (suc p) (omega arith))) lt);
  }

  pub ends-whole : a <q z → (t : ℚ) (c : ℕ → ℚ) → whole (ends a z p) t p p (suc p) c ≡ casteljau ((t -q a) /q (z -q a)) p c
  ends-whole lt t c =
      let K = ends-knots lt (suc (p + p)) in
      whole-curve K p 0 (suc p) (zero-add p) (omega arith) (omega arith) t c
      ∙ sym (deboor-is K t p 0 (λ m. c (0 + m)) (zero-add p) (omega arith))
      ∙ deboor-segment p ends-segment t (λ m. c (0 + m))
      ∙ casteljau-cong ((t -q a) /q (z -q a)) p (λ m l. ap c (zero-add m))

-- ---- so a degree more, or several, leave the sum as it was

pub raise-whole : {a z : ℚ} → a <q z → (d : ℕ) (t : ℚ) (c : ℕ → ℚ) → whole (ends a z (suc d)) t (suc d) (suc d) (suc (suc d)) (raised d c) ≡ whole (ends a z d) t d d (suc d) c
raise-whole {a} {z} lt d t c = ends-whole a z (suc d) lt t (raised d c) ∙ casteljau-raised ((t -q a) /q (z -q a)) d c ∙ sym (ends-whole a z d lt t c)

pub raised_to-whole : {a z : ℚ} → a <q z → (d n : ℕ) (t : ℚ) (c : ℕ → ℚ)
    → whole (ends a z (d + n)) t (d + n) (d + n) (suc (d + n)) (raised_to d n c) ≡ whole (ends a z d) t d d (suc d) c
raised_to-whole {a} {z} lt d n t c = ends-whole a z (d + n) lt t (raised_to d n c) ∙ casteljau-raised_to ((t -q a) /q (z -q a)) d n c ∙ sym (ends-whole a z d lt t c)

-- the first and the last control stay, so two segments that met still do
pub raised_to-first : (d n : ℕ) (c : ℕ → ℚ) → raised_to d n c 0 ≡ c 0
unfolding raised_to
raised_to-first d zero c = refl
raised_to-first d (suc n) c = raised_to-first d n c

pub raised_to-last : (d n : ℕ) (c : ℕ → ℚ) → raised_to d n c (d + n) ≡ c d
unfolding raised_to
raised_to-last d zero c = ap c (add-zero d)
raised_to-last d (suc n) c = ap (raised (d + n) (raised_to d n c)) (add-suc d n)
    ∙ cond_no _ _ (leb (suc (d + n)) (d + n)) (λ z. let y : suc (d + n) ≤ d + n = leb→le (suc (d + n)) (d + n) z in omega arith)
    ∙ raised_to-last d n c

-- ---- with weights

raised-pos : (d : ℕ) (w : ℕ → ℚ) → ((i : ℕ) → i ≤ d → q0 <q w i) → (i : ℕ) → i ≤ suc d → q0 <q raised d w i
unfolding raised ofℕ
raised-pos d w h zero l = h 0 (omega arith)
raised-pos d w h (suc j) l = ⊎_elim
    (λ (g : suc j ≤ d). subst (λ y. q0 <q y) (sym (cond_yes _ _ (leb (suc j) d) (le→leb (suc j) d g)))
    (mix-pos (ofℕ (suc j) /q ofℕ (suc d)) (w (suc j)) (w j) (div-nonneg (lt→le (ofℕ-pos j)) (ofℕ-pos d)) (div-le-1 (ofℕ-mono (suc j) (suc d) l) (ofℕ-pos d)) (h (suc j) g) (h j (omega arith))))
    (λ (g : d < suc j). subst (λ y. q0 <q y) (sym (cond_no _ _ (leb (suc j) d) (λ z. let y : suc j ≤ d = leb→le (suc j) d z in omega arith))) (h d (omega arith))) (split (suc j) d)

pub raised_to-pos : (d n : ℕ) (w : ℕ → ℚ) → ((i : ℕ) → i ≤ d → q0 <q w i) → (i : ℕ) → i ≤ d + n → q0 <q raised_to d n w i
unfolding raised_to
raised_to-pos d zero w h i l = h i (omega arith)
raised_to-pos d (suc n) w h i l = raised-pos (d + n) (raised_to d n w) (raised_to-pos d n w h) i (omega arith)

pub raised-back : (d n : ℕ) (w P : ℕ → ℚ) → ((i : ℕ) → i ≤ d → q0 <q w i) → (i : ℕ) → i ≤ d + n → raised_to d n w i *q raised_point d n w P i ≡ raised_to d n (λ j. w j *q P j) i
unfolding raised_point
raised-back d n w P h i l = put_back (raised_to d n w i) (raised_to d n (λ j. w j *q P j) i) (pos-ne (raised_to-pos d n w h i l))

-- the exact point is what it was
pub raise-exact : {a z : ℚ} → a <q z → (d n : ℕ) (t : ℚ) (w P : ℕ → ℚ) → ((i : ℕ) → i ≤ d → q0 <q w i)
    → exact (ends a z (d + n)) t (d + n) (d + n) (suc (d + n)) (raised_to d n w) (raised_point d n w P) ≡ exact (ends a z d) t d d (suc d) w P
unfolding exact
raise-exact {a} {z} lt d n t w P h = ap₂ ◌/q◌
    (whole-cong (ends a z (d + n)) t (d + n) (d + n) (suc (d + n)) (λ i l. raised-back d n w P h i (omega arith)) ∙ raised_to-whole lt d n t (λ j. w j *q P j))
    (raised_to-whole lt d n t w)
