-- Exact fractions. ℚ is the pairs of a whole number and a positive denominator, with pairs of equal value made one, so that `≡` is equality of value.
-- Beside each operation stands why it does not depend on the pair. Operations are shut: laws about them are in proofs/.
use std.Quotient as Quotient
use std.Quotient.{cls, eq/, /_set, /_rec, /_rec₂}
use Rattle.std.specs.Prelude.{◌≡◌, refl, Bool, not, ◌≢◌, [], ◌∷◌, ℕ, zero, suc, T, ℤ, pos, negsuc, nat_abs}
use Rattle.std.proofs.Common.{sym, ◌∙◌, ap, true≢false, arith}
use Rattle.std.proofs.Math.Bool.{Bool-set}
use Rattle.ring.specs.Int.{◌⊞◌, ◌⊠◌, ⊟◌, z0, z1, z-combine, den, ◌∗◌, den-mul, nonneg, nonneg-times, den-cancel-0}
use Rattle.ring.proofs.Solver.{zring, z-ring}

-- num / (dm + 1)
pub record Frac : Type 0 where
  pub num : ℤ
  pub dm : ℕ

abbrev pub Same : Frac → Frac → Type 0
Same p q = p.num ⊠ den q.dm ≡ q.num ⊠ den p.dm

unfoldable pub ℚ : Type 0
ℚ = Quotient.◌/◌ Frac Same

-- a / (d + 1)
unfoldable pub frac : ℤ → ℕ → ℚ
unfolding ℚ
frac a d = cls (record { num = a; dm = d })

infixl 80 ◌+q◌ ◌-q◌
infixl 85 ◌*q◌ ◌/q◌
-- ---- the sum

abbrev pub add_f : Frac → Frac → Frac
add_f p q = record { num = p.num ⊠ den q.dm ⊞ q.num ⊠ den p.dm; dm = p.dm ∗ q.dm }

pub add_f-l : (p q r : Frac) → Same p q → Same (add_f p r) (add_f q r)
add_f-l p q r h =
    let a = p.num in let b = q.num in let c = r.num in let d = den p.dm in let e = den q.dm in let f = den r.dm in
    rw (den-mul q.dm r.dm, den-mul p.dm r.dm) (z-combine (f ⊠ f) h (z-ring (a ∷ b ∷ c ∷ d ∷ e ∷ f ∷ []) (search zring depth 20) tt))

pub add_f-r : (r p q : Frac) → Same p q → Same (add_f r p) (add_f r q)
add_f-r r p q h =
    let a = p.num in let b = q.num in let c = r.num in let d = den p.dm in let e = den q.dm in let f = den r.dm in
    rw (den-mul r.dm q.dm, den-mul r.dm p.dm) (z-combine (f ⊠ f) h (z-ring (a ∷ b ∷ c ∷ d ∷ e ∷ f ∷ []) (search zring depth 20) tt))

unfoldable pub ◌+q◌ : ℚ → ℚ → ℚ
unfolding ℚ /_rec₂
◌+q◌ = /_rec₂ /_set (λ p q. cls (add_f p q)) (λ p p' q h. eq/ _ _ (add_f-l p p' q h)) (λ p q q' h. eq/ _ _ (add_f-r p q q' h))

-- ---- the opposite

abbrev pub neg_f : Frac → Frac
neg_f p = record { num = ⊟ p.num; dm = p.dm }

pub neg_f-r : (p q : Frac) → Same p q → Same (neg_f p) (neg_f q)
neg_f-r p q h =
    let a = p.num in let b = q.num in let d = den p.dm in let e = den q.dm in
    z-combine (⊟ z1) h (z-ring (a ∷ b ∷ d ∷ e ∷ []) (search zring depth 20) tt)

unfoldable pub negq : ℚ → ℚ
unfolding ℚ /_rec
negq = /_rec /_set (λ p. cls (neg_f p)) (λ p q h. eq/ _ _ (neg_f-r p q h))

unfoldable pub ◌-q◌ : ℚ → ℚ → ℚ
unfolding ◌+q◌ negq
x -q y = x +q negq y

-- ---- the product

abbrev pub mul_f : Frac → Frac → Frac
mul_f p q = record { num = p.num ⊠ q.num; dm = p.dm ∗ q.dm }

pub mul_f-l : (p q r : Frac) → Same p q → Same (mul_f p r) (mul_f q r)
mul_f-l p q r h =
    let a = p.num in let b = q.num in let c = r.num in let d = den p.dm in let e = den q.dm in let f = den r.dm in
    rw (den-mul q.dm r.dm, den-mul p.dm r.dm) (z-combine (c ⊠ f) h (z-ring (a ∷ b ∷ c ∷ d ∷ e ∷ f ∷ []) (search zring depth 20) tt))

pub mul_f-r : (r p q : Frac) → Same p q → Same (mul_f r p) (mul_f r q)
mul_f-r r p q h =
    let a = p.num in let b = q.num in let c = r.num in let d = den p.dm in let e = den q.dm in let f = den r.dm in
    rw (den-mul r.dm q.dm, den-mul r.dm p.dm) (z-combine (c ⊠ f) h (z-ring (a ∷ b ∷ c ∷ d ∷ e ∷ f ∷ []) (search zring depth 20) tt))

unfoldable pub ◌*q◌ : ℚ → ℚ → ℚ
unfolding ℚ /_rec₂
◌*q◌ = /_rec₂ /_set (λ p q. cls (mul_f p q)) (λ p p' q h. eq/ _ _ (mul_f-l p p' q h)) (λ p q q' h. eq/ _ _ (mul_f-r p q q' h))

unfoldable pub q0 : ℚ
unfolding frac z0
q0 = frac z0 0

unfoldable pub q1 : ℚ
unfolding frac z1
q1 = frac z1 0

-- ---- the reciprocal, and 0 for 0

abbrev pub inv_f : ℤ → ℕ → Frac
inv_f (pos zero) d = record { num = z0; dm = 0 }
inv_f (pos (suc n)) d = record { num = den d; dm = n }
inv_f (negsuc n) d = record { num = ⊟ den d; dm = n }

signs : (n e m d : ℕ) → den n ⊠ den e ≡ ⊟ den m ⊠ den d → ⊥
unfolding den ⊟◌ nonneg
signs n e m d h = true≢false (sym (nonneg-times (den n) e) ∙ ap nonneg h ∙ nonneg-times (⊟ den m) d)

pub den-ne-0 : (n : ℕ) → den n ≢ z0
unfolding den z0
den-ne-0 n h = let e : suc n ≡ 0 = ap nat_abs h in absurd (omega arith)

neg-ne-0 : (n : ℕ) → ⊟ den n ≢ z0
unfolding den z0 ⊟◌
neg-ne-0 n h = let e : suc n ≡ 0 = ap nat_abs h in absurd (omega arith)

zero-times : (d : ℤ) → z0 ⊠ d ≡ z0
zero-times d = z-ring (d ∷ []) (search zring depth 20) tt

both-neg : (n d m e : ℤ) → ⊟ n ⊠ e ≡ ⊟ m ⊠ d → ⊟ d ⊠ m ≡ ⊟ e ⊠ n
both-neg n d m e h = z-combine (⊟ z1) h (z-ring (n ∷ m ∷ d ∷ e ∷ []) (search zring depth 20) tt)

pub inv_f-same : (a : ℤ) (d : ℕ) (b : ℤ) (e : ℕ) → a ⊠ den e ≡ b ⊠ den d → Same (inv_f a d) (inv_f b e)
unfolding den ⊟◌ z0
inv_f-same (pos zero) d (pos zero) e h = refl
inv_f-same (pos zero) d (pos (suc m)) e h = absurd (den-ne-0 m (den-cancel-0 (den m) d (sym h ∙ zero-times (den e))))
inv_f-same (pos zero) d (negsuc m) e h = absurd (neg-ne-0 m (den-cancel-0 (⊟ den m) d (sym h ∙ zero-times (den e))))
inv_f-same (pos (suc n)) d (pos zero) e h = absurd (den-ne-0 n (den-cancel-0 (den n) e (h ∙ zero-times (den d))))
inv_f-same (pos (suc n)) d (pos (suc m)) e h = z-combine (⊟ z1) h (z-ring (den n ∷ den m ∷ den d ∷ den e ∷ []) (search zring depth 20) tt)
inv_f-same (pos (suc n)) d (negsuc m) e h = absurd (signs n e m d h)
inv_f-same (negsuc n) d (pos zero) e h = absurd (neg-ne-0 n (den-cancel-0 (⊟ den n) e (h ∙ zero-times (den d))))
inv_f-same (negsuc n) d (pos (suc m)) e h = absurd (signs m d n e (sym h))
inv_f-same (negsuc n) d (negsuc m) e h = both-neg (den n) (den d) (den m) (den e) h

unfoldable pub inv : ℚ → ℚ
unfolding ℚ /_rec
inv = /_rec /_set (λ p. cls (inv_f p.num p.dm)) (λ p q h. eq/ _ _ (inv_f-same p.num p.dm q.num q.dm h))

unfoldable pub ◌/q◌ : ℚ → ℚ → ℚ
unfolding ◌*q◌ inv
x /q y = x *q inv y

-- ---- the fractions that are not negative

unfoldable pub nn : ℚ → Bool
unfolding ℚ /_rec nonneg
nn = /_rec Bool-set (λ p. nonneg p.num) (λ p q h. sym (nonneg-times p.num q.dm) ∙ ap nonneg h ∙ nonneg-times q.num p.dm)

-- ---- the order

infix 50 ◌≤q◌ ◌<q◌
pub record ◌≤q◌ (x y : ℚ) : Type 0 where
  pub le : T (nn (y -q x))

pub record ◌<q◌ (x y : ℚ) : Type 0 where
  pub lt : T (not (nn (x -q y)))

-- ---- the whole number n

unfoldable pub ofℕ : ℕ → ℚ
ofℕ zero = q0
ofℕ (suc n) = ofℕ n +q q1
