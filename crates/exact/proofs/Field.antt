-- The fractions as an ordered field: the ring solver's list for them (`qring`), the order, division. Assumes nothing.
-- An identity is `q-ring (a ∷ b ∷ []) (search qring depth 20) tt`, where the list holds every atom: a variable, `inv x`, a call; at most 16.
-- One that rests on an equation h : u ≡ v is `q-combine k h (q-ring ..)`, where x - y is k (u - v).
-- An inequality x ≤ y is `le-by z (q-ring ..)`, with z : q0 ≤q e and the identity y - x ≡ e.
use mathlib.Core.Path.{◌≡◌, refl, sym, ◌∙◌, ap, subst}
use mathlib.Core.Bool.{Bool, true, false, not, ◌&&◌}
use mathlib.Core.Logic.{◌≢◌, ◌⊎◌, inl, inr, ◌↔◌}
use mathlib.Core.List.{List, [], ◌∷◌}
use Prim.Native.Nat.{ℕ}
use lib.Dec.{T, T_prop}
use lib.IntN.{ℤ}
use Rattle.ring.specs.Ring as Ring
use Rattle.ring.proofs.Solved as Solved
use Rattle.ring.proofs.Solved.{atoms}
use Rattle.ring.proofs.Solved.{Re}
use Rattle.ring.specs.Int.{◌⊞◌, ◌⊠◌, ⊟◌, den, nonneg, z0, z1, ◌∗◌}
use Rattle.exact.specs.Rational.{ℚ, frac, ◌+q◌, ◌-q◌, ◌*q◌, ◌/q◌, negq, inv, q0, q1, nn, ◌≤q◌, ◌<q◌}
use Rattle.exact.proofs.Laws.{ℚ-ring, nn-0, nn-add, nn-mul, nn-antisym, nn-total, mul-inv, inv-0}

-- ---- the solver

abbrev pub qr-add : {l : List ℚ} {x y : ℚ} → Re ℚ-ring l x → Re ℚ-ring l y → Re ℚ-ring l (x +q y)
qr-add {l} r s = Solved.re-add ℚ-ring l r s

abbrev pub qr-mul : {l : List ℚ} {x y : ℚ} → Re ℚ-ring l x → Re ℚ-ring l y → Re ℚ-ring l (x *q y)
qr-mul {l} r s = Solved.re-mul ℚ-ring l r s

abbrev pub qr-neg : {l : List ℚ} {x : ℚ} → Re ℚ-ring l x → Re ℚ-ring l (negq x)
qr-neg {l} r = Solved.re-neg ℚ-ring l r

pub sub_is : (x y : ℚ) → x -q y ≡ x +q negq y
unfolding ◌-q◌
sub_is x y = refl

pub div_is : (x y : ℚ) → x /q y ≡ x *q inv y
unfolding ◌/q◌
div_is x y = refl

pub along : {l : List ℚ} {x y : ℚ} (r : Re ℚ-ring l x) → x ≡ y → Solved.poly ℚ-ring l r.code ≡ y
along r e = r.is ∙ e

abbrev pub qr-sub : {l : List ℚ} {x y : ℚ} → Re ℚ-ring l x → Re ℚ-ring l y → Re ℚ-ring l (x -q y)
qr-sub {l} {x} {y} r s = let t = qr-add r (qr-neg s) in record { code = t.code; is = along t (sym (sub_is x y)) }

abbrev pub qr-div : {l : List ℚ} {x : ℚ} (y : ℚ) → Re ℚ-ring l x → Re ℚ-ring l (inv y) → Re ℚ-ring l (x /q y)
qr-div {l} {x} y r s = let t = qr-mul r s in record { code = t.code; is = along t (sym (div_is x y)) }

abbrev pub qr-0 : {l : List ℚ} → Re ℚ-ring l q0
qr-0 {l} = Solved.re-o ℚ-ring l

abbrev pub qr-1 : {l : List ℚ} → Re ℚ-ring l q1
qr-1 {l} = Solved.re-i ℚ-ring l

pub ruleset qring = (atoms, qr-0, qr-1, qr-add, qr-sub, qr-mul, qr-div, qr-neg)

pub q-ring : (l : List ℚ) {x y : ℚ} (r : Re ℚ-ring l (x +q negq y)) → T (Ring.is_nil r.code) → x ≡ y
q-ring l r h = Solved.ring ℚ-ring l r h

pub q-combine : (k : ℚ) {u v x y : ℚ} → u ≡ v → x +q k *q v ≡ y +q k *q u → x ≡ y
q-combine k h e = Ring.combine ℚ-ring k h e

-- two facts at once
pub q-combine₂ : (k k' : ℚ) {u v u' v' x y : ℚ} → u ≡ v → u' ≡ v' → x +q k *q v +q k' *q v' ≡ y +q k *q u +q k' *q u' → x ≡ y
q-combine₂ k k' h h' e = q-combine k h (q-combine k' h' e)

-- ---- the small laws

pub add-zero : (x : ℚ) → x +q q0 ≡ x
add-zero x = ℚ-ring.add-zero x

pub zero-add : (x : ℚ) → q0 +q x ≡ x
zero-add x = Ring.zero-add ℚ-ring x

pub mul-one : (x : ℚ) → x *q q1 ≡ x
mul-one x = ℚ-ring.mul-one x

pub one-mul : (x : ℚ) → q1 *q x ≡ x
one-mul x = Ring.one-mul ℚ-ring x

pub mul-zero : (x : ℚ) → x *q q0 ≡ q0
mul-zero x = Ring.mul-zero ℚ-ring x

pub zero-mul : (x : ℚ) → q0 *q x ≡ q0
zero-mul x = Ring.zero-mul ℚ-ring x

pub div-zero : (x : ℚ) → x /q q0 ≡ q0
div-zero x = div_is x q0 ∙ ap (λ y. x *q y) inv-0 ∙ mul-zero x

pub ruleset q-simp = (add-zero, zero-add, mul-one, one-mul, mul-zero, zero-mul)

pub sub-eq-0 : {x y : ℚ} → x -q y ≡ q0 → x ≡ y
sub-eq-0 {x} {y} h = Ring.eq-of-sub ℚ-ring x y (sym (sub_is x y) ∙ h)

-- ---- the order

pub ≤q-prop : (x y : ℚ) → IsProp (x ≤q y)
≤q-prop x y h k = λ i. record { le = T_prop (nn (y -q x)) h.le k.le i }

nn-along : {x y : ℚ} → x ≡ y → T (nn x) → T (nn y)
nn-along e h = subst (λ z. T (nn z)) e h

-- at two numbers that compute: `dec-le tt`, under `unfolding` of what computes
pub dec-le : {x y : ℚ} → T (nn (y -q x)) → x ≤q y
dec-le h = record { le = h }

pub dec-lt : {x y : ℚ} → T (not (nn (x -q y))) → x <q y
dec-lt h = record { lt = h }

pub le-or-lt : (x y : ℚ) → (x ≤q y) ⊎ (y <q x)
le-or-lt x y = go (nn (y -q x)) refl
  where
    go : (b : Bool) → nn (y -q x) ≡ b → (x ≤q y) ⊎ (y <q x)
    go true e = inl (record { le = subst T (sym e) tt })
    go false e = inr (record { lt = subst (λ b. T (not b)) (sym e) tt })

pub nonneg-is : {x : ℚ} → T (nn x) → q0 ≤q x
nonneg-is {x} h = record { le = nn-along (q-ring (x ∷ []) (search qring depth 20) tt) h }

pub is-nonneg : {x : ℚ} → q0 ≤q x → T (nn x)
is-nonneg {x} h = nn-along (q-ring (x ∷ []) (search qring depth 20) tt) h.le

-- x ≤ y, where y - x is a number that is not negative
pub le-by : {x y z : ℚ} → q0 ≤q z → y -q x ≡ z → x ≤q y
le-by h e = record { le = nn-along (sym e) (is-nonneg h) }

pub le-sub : {x y : ℚ} → x ≤q y → q0 ≤q y -q x
le-sub h = nonneg-is h.le

pub ≤-refl : (x : ℚ) → x ≤q x
≤-refl x = record { le = nn-along (q-ring (x ∷ []) (search qring depth 20) tt) nn-0 }

pub ≤-eq : {x y : ℚ} → x ≡ y → x ≤q y
≤-eq {x} e = subst (λ z. x ≤q z) e (≤-refl x)

pub add-nonneg : {x y : ℚ} → q0 ≤q x → q0 ≤q y → q0 ≤q x +q y
add-nonneg {x} {y} h k = nonneg-is (nn-add x y (is-nonneg h) (is-nonneg k))

pub mul-nonneg : {x y : ℚ} → q0 ≤q x → q0 ≤q y → q0 ≤q x *q y
mul-nonneg {x} {y} h k = nonneg-is (nn-mul x y (is-nonneg h) (is-nonneg k))

pub ≤_trans : {x y z : ℚ} → x ≤q y → y ≤q z → x ≤q z
≤_trans {x} {y} {z} h k = le-by (add-nonneg (le-sub h) (le-sub k)) (q-ring (x ∷ y ∷ z ∷ []) (search qring depth 20) tt)

pub ≤-antisym : {x y : ℚ} → x ≤q y → y ≤q x → x ≡ y
≤-antisym {x} {y} h k = sym (sub-eq-0 (nn-antisym (y -q x) h.le (nn-along (q-ring (x ∷ y ∷ []) (search qring depth 20) tt) k.le)))

pub +-mono : {x y z w : ℚ} → x ≤q y → z ≤q w → x +q z ≤q y +q w
+-mono {x} {y} {z} {w} h k = le-by (add-nonneg (le-sub h) (le-sub k)) (q-ring (x ∷ y ∷ z ∷ w ∷ []) (search qring depth 20) tt)

-- a factor that is not negative keeps the order, one that is not positive turns it round
pub up_right : {x y : ℚ} (e : ℚ) → q0 ≤q e → x ≤q y → e *q x ≤q e *q y
up_right {x} {y} e n h = le-by (mul-nonneg n (le-sub h)) (q-ring (e ∷ x ∷ y ∷ []) (search qring depth 20) tt)

pub down-right : {x y : ℚ} (e : ℚ) → e ≤q q0 → x ≤q y → e *q y ≤q e *q x
down-right {x} {y} e n h = le-by (mul-nonneg (le-sub n) (le-sub h)) (q-ring (e ∷ x ∷ y ∷ []) (search qring depth 20) tt)

pub up_left : {x y : ℚ} (e : ℚ) → q0 ≤q e → x ≤q y → x *q e ≤q y *q e
up_left {x} {y} e n h = le-by (mul-nonneg n (le-sub h)) (q-ring (e ∷ x ∷ y ∷ []) (search qring depth 20) tt)

pub down-left : {x y : ℚ} (e : ℚ) → e ≤q q0 → x ≤q y → y *q e ≤q x *q e
down-left {x} {y} e n h = le-by (mul-nonneg (le-sub n) (le-sub h)) (q-ring (e ∷ x ∷ y ∷ []) (search qring depth 20) tt)

pub neg-le : {x y : ℚ} → x ≤q y → negq y ≤q negq x
neg-le {x} {y} h = le-by (le-sub h) (q-ring (x ∷ y ∷ []) (search qring depth 20) tt)

pub lt→le : {x y : ℚ} → x <q y → x ≤q y
lt→le {x} {y} h = record { le = nn-along (q-ring (x ∷ y ∷ []) (search qring depth 20) tt) (nn-total (x -q y) h.lt) }

pub not-both : {x y : ℚ} → x <q y → y ≤q x → ⊥
not-both {x} {y} h k = clash (nn (x -q y)) h.lt k.le
  where
    clash : (b : Bool) → T (not b) → T b → ⊥
    clash true u v = u
    clash false u v = v

pub lt→ne : {x y : ℚ} → x <q y → x ≢ y
lt→ne {x} {y} h e = not-both h (≤-eq (sym e))

pub lt_of_le_ne : {x y : ℚ} → x ≤q y → x ≢ y → x <q y
lt_of_le_ne {x} {y} h n = go (le-or-lt y x)
  where
    go : (y ≤q x) ⊎ (x <q y) → x <q y
    go (inl k) = absurd (n (≤-antisym h k))
    go (inr k) = k

pub ≤-<-trans : {x y z : ℚ} → x ≤q y → y <q z → x <q z
≤-<-trans {x} {y} {z} h k = lt_of_le_ne (≤_trans h (lt→le k)) (λ e. not-both k (subst (λ w. w ≤q y) e h))

pub <-≤-trans : {x y z : ℚ} → x <q y → y ≤q z → x <q z
<-≤-trans {x} {y} {z} h k = lt_of_le_ne (≤_trans (lt→le h) k) (λ e. not-both h (subst (λ w. y ≤q w) (sym e) k))

pub lt-sub : {x y : ℚ} → x <q y → q0 <q y -q x
lt-sub {x} {y} h = lt_of_le_ne (le-sub (lt→le h)) (λ e. lt→ne h (sym (sub-eq-0 (sym e))))

pub q0<q1 : q0 <q q1
unfolding nn q0 q1 ◌-q◌ ◌⊞◌ ◌⊠◌ ⊟◌ nonneg den
q0<q1 = record { lt = tt }

-- ---- division

pub mul-cancel : {x y : ℚ} (c : ℚ) → c ≢ q0 → c *q x ≡ c *q y → x ≡ y
mul-cancel {x} {y} c n h = q-combine₂ (negq (x -q y)) (inv c) (mul-inv c n) h (q-ring (x ∷ y ∷ c ∷ inv c ∷ []) (search qring depth 20) tt)

pub mul-ne-0 : {x y : ℚ} → x ≢ q0 → y ≢ q0 → x *q y ≢ q0
mul-ne-0 {x} {y} n m h = m (mul-cancel x n (h ∙ sym (mul-zero x)))

pub mul-pos : {x y : ℚ} → q0 <q x → q0 <q y → q0 <q x *q y
mul-pos h k = lt_of_le_ne (mul-nonneg (lt→le h) (lt→le k)) (λ e. mul-ne-0 (λ p. lt→ne h (sym p)) (λ p. lt→ne k (sym p)) (sym e))

pub pos-ne : {x : ℚ} → q0 <q x → x ≢ q0
pos-ne h e = lt→ne h (sym e)

pub inv-ne-0 : {x : ℚ} → x ≢ q0 → inv x ≢ q0
inv-ne-0 {x} n h = lt→ne q0<q1 (sym (mul-zero x) ∙ ap (λ y. x *q y) (sym h) ∙ mul-inv x n)

pub div-mul : (x : ℚ) {y : ℚ} → y ≢ q0 → x /q y *q y ≡ x
div-mul x {y} n = q-combine x (mul-inv y n) (q-ring (x ∷ y ∷ inv y ∷ []) (search qring depth 20) tt)

-- x / y is the z with z y = x
pub div-eq : {x y z : ℚ} → y ≢ q0 → z *q y ≡ x → x /q y ≡ z
div-eq {x} {y} {z} n h = q-combine₂ z (negq (inv y)) (mul-inv y n) h (q-ring (x ∷ y ∷ z ∷ inv y ∷ []) (search qring depth 20) tt)

pub inv-nonneg : {x : ℚ} → q0 <q x → q0 ≤q inv x
inv-nonneg {x} h = go (le-or-lt q0 (inv x))
  where
    go : (q0 ≤q inv x) ⊎ (inv x <q q0) → q0 ≤q inv x
    go (inl k) = k
    go (inr k) = absurd (not-both q0<q1 (le-by (mul-nonneg (lt→le h) (le-sub (lt→le k)))
        (q-combine q1 (mul-inv x (pos-ne h)) (q-ring (x ∷ inv x ∷ []) (search qring depth 20) tt))))

pub div-nonneg : {x y : ℚ} → q0 ≤q x → q0 <q y → q0 ≤q x /q y
div-nonneg {x} {y} h k = subst (λ z. q0 ≤q z) (sym (div_is x y)) (mul-nonneg h (inv-nonneg k))

pub div-le-1 : {x y : ℚ} → x ≤q y → q0 <q y → x /q y ≤q q1
div-le-1 {x} {y} h k = le-by (div-nonneg (le-sub h) k) (q-combine (negq q1) (mul-inv y (pos-ne k)) (q-ring (x ∷ y ∷ inv y ∷ []) (search qring depth 20) tt))

pub div-le-div : {x y z : ℚ} → x ≤q y → q0 <q z → x /q z ≤q y /q z
div-le-div {x} {y} {z} h k = le-by (mul-nonneg (inv-nonneg k) (le-sub h)) (q-ring (x ∷ y ∷ inv z ∷ []) (search qring depth 20) tt)

-- ---- reciprocals turn the order round

pub inv-mono : {x y : ℚ} → q0 <q x → x ≤q y → inv y ≤q inv x
inv-mono {x} {y} p q =
    let n = pos-ne p in
    let m = pos-ne (<-≤-trans p q) in
    le-by (mul-nonneg (le-sub q) (mul-nonneg (inv-nonneg p) (inv-nonneg (<-≤-trans p q))))
    (q-combine₂ (negq (inv x)) (inv y) (mul-inv y m) (mul-inv x n) (q-ring (x ∷ y ∷ inv x ∷ inv y ∷ []) (search qring depth 20) tt))

pub neg-ne : {x : ℚ} → x <q q0 → x ≢ q0
neg-ne p = lt→ne p

pub inv-neg : {x : ℚ} → x <q q0 → inv x ≤q q0
inv-neg {x} h = go (le-or-lt (inv x) q0)
  where
    go : (inv x ≤q q0) ⊎ (q0 <q inv x) → inv x ≤q q0
    go (inl k) = k
    go (inr k) = absurd (not-both q0<q1 (le-by (mul-nonneg (lt→le k) (le-sub (lt→le h)))
        (q-combine q1 (mul-inv x (neg-ne h)) (q-ring (x ∷ inv x ∷ []) (search qring depth 20) tt))))

pub inv-mono-neg : {x y : ℚ} → y <q q0 → x ≤q y → inv y ≤q inv x
inv-mono-neg {x} {y} p q =
    let n = neg-ne (≤-<-trans q p) in
    let m = neg-ne p in
    le-by (mul-nonneg (le-sub q) (mul-nonneg (le-sub (inv-neg (≤-<-trans q p))) (le-sub (inv-neg p))))
    (q-combine₂ (negq (inv x)) (inv y) (mul-inv y m) (mul-inv x n) (q-ring (x ∷ y ∷ inv x ∷ inv y ∷ []) (search qring depth 20) tt))

-- ---- the order of two fractions, by whole numbers

pub frac-le : (a : ℤ) (d : ℕ) (b : ℤ) (e : ℕ) → T (nonneg (b ⊠ den d ⊞ ⊟ a ⊠ den e)) ↔ (frac a d ≤q frac b e)
unfolding frac nn ◌-q◌
frac-le a d b e = (λ h. record { le = h }, λ h. h.le)

-- ---- two numbers that compute: `by-same tt`, with `same` and what computes named on the `unfolding` line

-- to unfold this is to unfold the arithmetic
unfoldable pub same : ℚ → ℚ → Bool
unfolding nn ◌-q◌ ◌+q◌ ◌*q◌ ◌/q◌ inv negq q0 q1 frac z0 z1 ◌⊞◌ ◌⊠◌ ⊟◌ den ◌∗◌ nonneg
same x y = nn (x -q y) && nn (y -q x)

pub by-same : {x y : ℚ} → T (same x y) → x ≡ y
unfolding same
by-same {x} {y} h = both (nn (x -q y)) (nn (y -q x)) h (λ u v. ≤-antisym (record { le = v }) (record { le = u }))
  where
    both : (a b : Bool) → T (a && b) → (T a → T b → x ≡ y) → x ≡ y
    both true true h k = k tt tt
    both true false h k = absurd h
    both false b h k = absurd h
