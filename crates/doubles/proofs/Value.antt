-- The float comparisons of finite doubles are the order of their fractions, and what Rust's + * / and - round are the sum, product, reciprocal and opposite of them. Assumes nothing.
use mathlib.Core.Path.{◌≡◌, refl, sym, ◌∙◌, ap, ap₂}
use mathlib.Core.Bool.{Bool, true, false, not, cond}
use mathlib.Core.List.{[], ◌∷◌}
use mathlib.Core.Logic.{inl, inr}
use Prim.Native.Nat.{ℕ, zero, suc, ◌+◌, ◌-◌, ◌*◌, pred, ◌≤◌, ◌<◌}
use native.Mathlib.Nat.{mul-pos, zero-lt-suc, zero-mul}
use native.Mathlib.Omega.{arith}
use lib.Dec.{T, ltb, ltb→lt, nltb→le, lt→ltb}
use lib.Arith.{le→nltb}
use lib.IntN.{ℤ, pos, negsuc}
use lib.Ieee.Scale.{finite}
use lib.Ieee.Fits.{down_pos, up_pos}
use lib.Ieee.{Float, nan, inf, fin, up, down, lt, below, unlike}
use Rattle.ring.specs.Int.{◌⊞◌, ◌⊠◌, ⊟◌, z0, den, ◌∗◌, suc-prod, nonneg}
use Rattle.ring.proofs.Solver.{zring, z-ring}
use Rattle.exact.specs.Rational.{frac, ◌+q◌, ◌-q◌, ◌*q◌, negq, inv, nn, q0, q1, ◌≤q◌, ◌<q◌}
use Rattle.exact.proofs.Laws.{frac-0, frac-add, frac-mul, frac-neg}
use Rattle.exact.proofs.Field.{not-both}
use Rattle.doubles.specs.Value.{zero+, one+, signed, ratio, val}
use Rattle.doubles.proofs.TestFacts.{yes_or_no}

-- ---- signed whole numbers

pos-mul : (a b : ℕ) → pos a ⊠ pos b ≡ pos (a * b)
unfolding ◌⊠◌
pos-mul a b = refl

-- the minus sign, as the ring has it
pub minus_is : (n : ℕ) → signed true n ≡ ⊟ pos n
unfolding ⊟◌
minus_is n = refl

neg-mul : (x y : ℤ) → ⊟ x ⊠ y ≡ ⊟ (x ⊠ y)
neg-mul x y = z-ring (x ∷ y ∷ []) (search zring depth 20) tt

mul-neg : (x y : ℤ) → x ⊠ ⊟ y ≡ ⊟ (x ⊠ y)
mul-neg x y = z-ring (x ∷ y ∷ []) (search zring depth 20) tt

neg-neg-mul : (x y : ℤ) → ⊟ x ⊠ ⊟ y ≡ x ⊠ y
neg-neg-mul x y = z-ring (x ∷ y ∷ []) (search zring depth 20) tt

neg-neg : (x : ℤ) → ⊟ (⊟ x) ≡ x
neg-neg x = z-ring (x ∷ []) (search zring depth 20) tt

pub signed_mul : (s : Bool) (a : ℕ) (t : Bool) (b : ℕ) → signed s a ⊠ signed t b ≡ signed (unlike s t) (a * b)
signed_mul false a false b = pos-mul a b
signed_mul false a true b = rw (minus_is b, minus_is (a * b)) (mul-neg (pos a) (pos b) ∙ ap ⊟◌ (pos-mul a b))
signed_mul true a false b = rw (minus_is a, minus_is (a * b)) (neg-mul (pos a) (pos b) ∙ ap ⊟◌ (pos-mul a b))
signed_mul true a true b = rw (minus_is a, minus_is b) (neg-neg-mul (pos a) (pos b) ∙ pos-mul a b)

pub signed-times : (s : Bool) (a b : ℕ) → signed s a ⊠ pos b ≡ signed s (a * b)
signed-times true a b = signed_mul true a false b
signed-times false a b = signed_mul false a false b

signed-not : (s : Bool) (a : ℕ) → ⊟ signed s a ≡ signed (not s) a
signed-not false a = sym (minus_is a)
signed-not true a = rw (minus_is a) (neg-neg (pos a))

pub den-pred : (n : ℕ) → 0 < n → den (pred n) ≡ pos n
unfolding den
den-pred n h = let x : suc (pred n) ≡ n = omega arith in ap pos x

-- ---- a - b for two naturals

diff-nonneg : (a b : ℕ) → b ≤ a → T (nonneg (pos a ⊞ ⊟ pos b))
unfolding nonneg ◌⊞◌ ⊟◌
diff-nonneg a zero h = tt
diff-nonneg a (suc b) h = go (ltb a (suc b)) (ltb→lt a (suc b))
  where
    go : (c : Bool) → (T c → a < suc b) → T (nonneg (cond c (negsuc (suc b - suc a)) (pos (a - suc b))))
    go true f = let x : a < suc b = f tt in absurd (omega arith)
    go false f = tt

diff-neg : (a b : ℕ) → a < b → T (not (nonneg (pos a ⊞ ⊟ pos b)))
unfolding nonneg ◌⊞◌ ⊟◌
diff-neg a zero h = absurd (omega arith)
diff-neg a (suc b) h = go (ltb a (suc b)) (lt→ltb a (suc b) h)
  where
    go : (c : Bool) → T c → T (not (nonneg (cond c (negsuc (suc b - suc a)) (pos (a - suc b)))))
    go true f = tt
    go false f = absurd f

-- the difference of two signed numbers, as one of naturals
two-neg : (a b : ℕ) → signed true a ⊞ ⊟ signed false b ≡ pos 0 ⊞ ⊟ pos (a + b)
unfolding z0 ◌⊞◌
two-neg a b = rw (minus_is a) (out (pos a) (pos b))
  where
    out : (x y : ℤ) → ⊟ x ⊞ ⊟ y ≡ z0 ⊞ ⊟ (x ⊞ y)
    out x y = z-ring (x ∷ y ∷ []) (search zring depth 20) tt

neg-both : (a b : ℕ) → signed true a ⊞ ⊟ signed true b ≡ pos b ⊞ ⊟ pos a
neg-both a b = rw (minus_is a, minus_is b) (out (pos a) (pos b))
  where
    out : (x y : ℤ) → ⊟ x ⊞ ⊟ (⊟ y) ≡ y ⊞ ⊟ x
    out x y = z-ring (x ∷ y ∷ []) (search zring depth 20) tt

neg_right : (a b : ℕ) → signed false a ⊞ ⊟ signed true b ≡ pos (a + b)
unfolding ◌⊞◌
neg_right a b = rw (minus_is b) (out (pos a) (pos b))
  where
    out : (x y : ℤ) → x ⊞ ⊟ (⊟ y) ≡ x ⊞ y
    out x y = z-ring (x ∷ y ∷ []) (search zring depth 20) tt

nonneg_pos : (a : ℕ) → T (nonneg (pos a))
unfolding nonneg
nonneg_pos a = tt

pub below-yes : (s : Bool) (a : ℕ) (t : Bool) (b : ℕ) → T (below s a t b) → T (not (nonneg (signed s a ⊞ ⊟ signed t b)))
below-yes false a false b h = diff-neg a b (ltb→lt a b h)
below-yes false a true b h = absurd h
below-yes true a false b h = rw (two-neg a b) (diff-neg 0 (a + b) (ltb→lt 0 (a + b) h))
below-yes true a true b h = rw (neg-both a b) (diff-neg b a (ltb→lt b a h))

below-no : (s : Bool) (a : ℕ) (t : Bool) (b : ℕ) → T (not (below s a t b)) → T (nonneg (signed s a ⊞ ⊟ signed t b))
below-no false a false b h = diff-nonneg a b (nltb→le a b h)
below-no false a true b h = rw (neg_right a b) (nonneg_pos (a + b))
below-no true a false b h = rw (two-neg a b) (diff-nonneg 0 (a + b) (nltb→le 0 (a + b) h))
below-no true a true b h = rw (neg-both a b) (diff-nonneg b a (nltb→le b a h))

-- ---- the order of ±a / c and ±b / d, by cross-multiplication

nn-ratio : (s : Bool) (a c : ℕ) (t : Bool) (b d : ℕ) → 0 < c → 0 < d → nn (ratio s a c -q ratio t b d) ≡ nonneg (signed s (a * d) ⊞ ⊟ signed t (b * c))
unfolding ratio frac nn ◌-q◌
nn-ratio s a c t b d C D =
    ap nonneg (ap₂ ◌⊞◌ (times s a d D) (neg-mul (signed t b) (den (pred c)) ∙ ap ⊟◌ (times t b c C)))
  where
    times : (s : Bool) (a d : ℕ) → 0 < d → signed s a ⊠ den (pred d) ≡ signed s (a * d)
    times s a d h = ap (λ x. signed s a ⊠ x) (den-pred d h) ∙ signed-times s a d

module _ (s : Bool) (a c : ℕ) (t : Bool) (b d : ℕ) (C : 0 < c) (D : 0 < d) where
  pub ratio-lt : T (below s (a * d) t (b * c)) → ratio s a c <q ratio t b d
  ratio-lt h = record { lt = rw (nn-ratio s a c t b d C D) (below-yes s (a * d) t (b * c) h) }

  pub ratio-le : T (not (below s (a * d) t (b * c))) → ratio t b d ≤q ratio s a c
  ratio-le h = record { le = rw (nn-ratio s a c t b d C D) (below-no s (a * d) t (b * c) h) }

  pub le-ratio : ratio t b d ≤q ratio s a c → T (not (below s (a * d) t (b * c)))
  le-ratio h = go (below s (a * d) t (b * c)) ratio-lt
    where
      go : (k : Bool) → (T k → ratio s a c <q ratio t b d) → T (not k)
      go true f = not-both (f tt) h
      go false f = tt

-- ---- Rust's `<`, `==` and `<=` on two finite doubles

pub val_is : (s : Bool) (m : ℕ) (e : ℤ) → val (fin s m e) ≡ ratio s (m * up e) (down e)
unfolding val
val_is s m e = refl

pub val-lt : (x y : Float) → T (finite x) → T (finite y) → T (lt x y) → val x <q val y
unfolding lt
val-lt nan y f g h = absurd f
val-lt (inf s) y f g h = absurd f
val-lt (fin s m e) nan f g h = absurd g
val-lt (fin s m e) (inf t) f g h = absurd g
val-lt (fin s m e) (fin t n d) f g h = rw (val_is s m e, val_is t n d) (ratio-lt s (m * up e) (down e) t (n * up d) (down d) (down_pos e) (down_pos d) h)

-- y is not above x where x < y fails
pub val-le : (x y : Float) → T (finite x) → T (finite y) → T (not (lt x y)) → val y ≤q val x
unfolding lt
val-le nan y f g h = absurd f
val-le (inf s) y f g h = absurd f
val-le (fin s m e) nan f g h = absurd g
val-le (fin s m e) (inf t) f g h = absurd g
val-le (fin s m e) (fin t n d) f g h = rw (val_is s m e, val_is t n d) (ratio-le s (m * up e) (down e) t (n * up d) (down d) (down_pos e) (down_pos d) h)

pub lt_val : (x y : Float) → T (finite x) → T (finite y) → val x <q val y → T (lt x y)
lt_val x y f g h = elim (yes_or_no (lt x y)) [ inl t ↦ t | inr n ↦ absurd (not-both h (val-le x y f g n)) ]

pub le_val : (x y : Float) → T (finite x) → T (finite y) → val y ≤q val x → T (not (lt x y))
le_val x y f g h = elim (yes_or_no (lt x y)) [ inl t ↦ absurd (not-both (val-lt x y f g t) h) | inr n ↦ n ]

-- ---- the opposite, the sum, the product and the reciprocal

pub ratio-neg : (s : Bool) (n d : ℕ) → negq (ratio (not s) n d) ≡ ratio s n d
unfolding ratio
ratio-neg s n d = frac-neg (signed (not s) n) (pred d) ∙ ap (λ z. frac z (pred d)) (signed-not (not s) n ∙ twice s)
  where
    twice : (s : Bool) → signed (not (not s)) n ≡ signed s n
    twice true = refl
    twice false = refl

pub val-neg : (s : Bool) (m : ℕ) (e : ℤ) → val (fin (not s) m e) ≡ negq (val (fin s m e))
unfolding val ratio
val-neg s m e = sym (frac-neg (signed s (m * up e)) (pred (down e)) ∙ ap (λ z. frac z (pred (down e))) (signed-not s (m * up e)))

pred-prod : (x y : ℕ) → 0 < x → 0 < y → pred x ∗ pred y ≡ pred (x * y)
unfolding ◌∗◌
pred-prod zero y h k = absurd (omega arith)
pred-prod (suc x) zero h k = absurd (omega arith)
pred-prod (suc x) (suc y) h k = let z : suc x * suc y ≡ suc (x * y + x + y) = suc-prod x y in omega arith

-- two fractions over the product of their denominators
pub ratio-add : (s : Bool) (a c : ℕ) (t : Bool) (b d : ℕ) → 0 < c → 0 < d → ratio s a c +q ratio t b d ≡ frac (signed s (a * d) ⊞ signed t (b * c)) (pred (c * d))
unfolding ratio
ratio-add s a c t b d C D =
    frac-add (signed s a) (pred c) (signed t b) (pred d)
    ∙ ap₂ frac (ap₂ ◌⊞◌ (ap (λ x. signed s a ⊠ x) (den-pred d D) ∙ signed-times s a d) (ap (λ x. signed t b ⊠ x) (den-pred c C) ∙ signed-times t b c)) (pred-prod c d C D)

pub ratio-mul : (s : Bool) (a c : ℕ) (t : Bool) (b d : ℕ) → 0 < c → 0 < d → ratio s a c *q ratio t b d ≡ ratio (unlike s t) (a * b) (c * d)
unfolding ratio
ratio-mul s a c t b d C D = frac-mul (signed s a) (pred c) (signed t b) (pred d) ∙ ap₂ frac (signed_mul s a t b) (pred-prod c d C D)

pub ratio-inv : (t : Bool) (a c : ℕ) → 0 < a → 0 < c → inv (ratio t a c) ≡ ratio t c a
unfolding ratio inv frac den ⊟◌
ratio-inv t zero c h k = absurd (omega arith)
ratio-inv t (suc a) zero h k = absurd (omega arith)
ratio-inv false (suc a) (suc c) h k = refl
ratio-inv true (suc a) (suc c) h k = refl

-- ---- signs

q0-is : q0 ≡ ratio false 0 1
unfolding q0 ratio
q0-is = refl

-- both zeros, however they are written
pub val-zeros : (s : Bool) (e : ℤ) → val (fin s 0 e) ≡ q0
unfolding val ratio z0
val-zeros s e = ap (λ z. frac z (pred (down e))) (none s) ∙ frac-0 (pred (down e))
  where
    none : (s : Bool) → signed s (0 * up e) ≡ pos 0
    none true = ap (λ (n : ℕ). signed true n) (zero-mul (up e))
    none false = ap pos (zero-mul (up e))

pub val-zero : val zero+ ≡ q0
val-zero = val-zeros false (pos 0)

pub val-one : val one+ ≡ q1
unfolding val ratio q1
val-one = refl

pub val_plus : (m : ℕ) (e : ℤ) → q0 ≤q val (fin false m e)
val_plus m e = rw (q0-is, val_is false m e) (ratio-le false (m * up e) (down e) false 0 1 (down_pos e) (omega arith) (le→nltb (m * up e * 1) (0 * down e) (omega arith)))

pub val-minus : (m : ℕ) (e : ℤ) → val (fin true m e) ≤q q0
val-minus m e = rw (q0-is, val_is true m e) (ratio-le false 0 1 true (m * up e) (down e) (omega arith) (down_pos e) tt)

-- strictly, where the size is not 0
pub val-above : (m : ℕ) (e : ℤ) → q0 <q val (fin false (suc m) e)
val-above m e =
    rw (q0-is, val_is false (suc m) e)
    (ratio-lt false 0 1 false (suc m * up e) (down e) (omega arith) (down_pos e) (lt→ltb (0 * down e) (suc m * up e * 1) (go (down e) (suc m * up e) (mul-pos (zero-lt-suc m) (up_pos e)))))
  where
    go : (d x : ℕ) → 0 < x → 0 * d < x * 1
    go d x h = omega arith

pub val-below : (m : ℕ) (e : ℤ) → val (fin true (suc m) e) <q q0
val-below m e =
    rw (q0-is, val_is true (suc m) e)
    (ratio-lt true (suc m * up e) (down e) false 0 1 (down_pos e) (omega arith) (lt→ltb 0 (suc m * up e * 1 + 0 * down e) (go (down e) (suc m * up e) (mul-pos (zero-lt-suc m) (up_pos e)))))
  where
    go : (d x : ℕ) → 0 < x → 0 < x * 1 + 0 * d
    go d x h = omega arith
