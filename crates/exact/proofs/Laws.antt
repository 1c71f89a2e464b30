-- ℚ as a commutative ring with a reciprocal and a sign. Assumes nothing.
use std.Quotient.{eq/, /_set, /_elim_prop, /_elim_prop₂, /_elim_prop₃}
use mathlib.Core.Path.{◌≡◌, refl, sym, ◌∙◌, ap}
use mathlib.Core.Bool.{not}
use mathlib.Core.HLevel.{→_prop}
use mathlib.Core.Logic.{◌≢◌}
use mathlib.Core.List.{[], ◌∷◌}
use Prim.Native.Nat.{ℕ, zero, suc}
use lib.Dec.{T, T_prop}
use lib.IntN.{ℤ, pos, negsuc}
use Rattle.ring.specs.Ring.{CommRing}
use Rattle.ring.specs.Int.{◌⊞◌, ◌⊠◌, ⊟◌, z0, z1, den, ◌∗◌, den-mul, den-0, nonneg, nonneg-den, nonneg-add, nonneg-mul, nonneg-antisym, nonneg-total}
use Rattle.ring.proofs.Solver.{zring, z-ring}
use Rattle.exact.specs.Rational.{ℚ, frac, ◌+q◌, ◌*q◌, negq, q0, q1, inv, nn}

pub ℚ-set : IsSet ℚ
unfolding ℚ
ℚ-set = /_set

pub frac-eq : (a : ℤ) (d : ℕ) (b : ℤ) (e : ℕ) → a ⊠ den e ≡ b ⊠ den d → frac a d ≡ frac b e
unfolding ℚ frac
frac-eq a d b e h = eq/ _ _ h

-- what holds of every fraction, if it is a proposition
pub ℚ-ind : (P : ℚ → Type 0) → ((x : ℚ) → IsProp (P x)) → ((a : ℤ) (d : ℕ) → P (frac a d)) → (x : ℚ) → P x
unfolding ℚ frac
ℚ-ind P h f = /_elim_prop P h (λ p. f p.num p.dm)

module _ (P : ℚ → ℚ → Type 0) (h : (x y : ℚ) → IsProp (P x y)) where
  pub ℚ-ind₂ : ((a : ℤ) (d : ℕ) (b : ℤ) (e : ℕ) → P (frac a d) (frac b e)) → (x y : ℚ) → P x y
  unfolding ℚ frac
  ℚ-ind₂ f = /_elim_prop₂ P h (λ p q. f p.num p.dm q.num q.dm)

module _ (P : ℚ → ℚ → ℚ → Type 0) (h : (x y z : ℚ) → IsProp (P x y z)) where
  pub ℚ-ind₃ : ((a : ℤ) (d : ℕ) (b : ℤ) (e : ℕ) (c : ℤ) (f : ℕ) → P (frac a d) (frac b e) (frac c f)) → (x y z : ℚ) → P x y z
  unfolding ℚ frac
  ℚ-ind₃ k = /_elim_prop₃ P h (λ p q r. k p.num p.dm q.num q.dm r.num r.dm)

-- ---- what they are on two fractions

pub frac-add : (a : ℤ) (d : ℕ) (b : ℤ) (e : ℕ) → frac a d +q frac b e ≡ frac (a ⊠ den e ⊞ b ⊠ den d) (d ∗ e)
unfolding frac ◌+q◌
frac-add a d b e = refl

pub frac-mul : (a : ℤ) (d : ℕ) (b : ℤ) (e : ℕ) → frac a d *q frac b e ≡ frac (a ⊠ b) (d ∗ e)
unfolding frac ◌*q◌
frac-mul a d b e = refl

pub frac-neg : (a : ℤ) (d : ℕ) → negq (frac a d) ≡ frac (⊟ a) d
unfolding frac negq
frac-neg a d = refl

q0-is : q0 ≡ frac z0 0
unfolding q0
q0-is = refl

q1-is : q1 ≡ frac z1 0
unfolding q1
q1-is = refl

ruleset on-frac = (frac-add, frac-mul, frac-neg, q0-is, q1-is)

ruleset on-den = (den-mul, den-0)

-- ---- the ring

add_assoc : (x y z : ℚ) → x +q y +q z ≡ x +q (y +q z)
add_assoc = ℚ-ind₃ (λ x y z. x +q y +q z ≡ x +q (y +q z)) (λ x y z. ℚ-set _ _)
    (λ a d b e c f. simp on-frac (frac-eq _ _ _ _ (simp on-den (z-ring (a ∷ b ∷ c ∷ den d ∷ den e ∷ den f ∷ []) (search zring depth 20) tt))))

add_comm : (x y : ℚ) → x +q y ≡ y +q x
add_comm = ℚ-ind₂ (λ x y. x +q y ≡ y +q x) (λ x y. ℚ-set _ _)
    (λ a d b e. simp on-frac (frac-eq _ _ _ _ (simp on-den (z-ring (a ∷ b ∷ den d ∷ den e ∷ []) (search zring depth 20) tt))))

add-zero : (x : ℚ) → x +q q0 ≡ x
add-zero = ℚ-ind (λ x. x +q q0 ≡ x) (λ x. ℚ-set _ _)
    (λ a d. simp on-frac (frac-eq _ _ _ _ (simp on-den (z-ring (a ∷ den d ∷ []) (search zring depth 20) tt))))

add-neg : (x : ℚ) → x +q negq x ≡ q0
add-neg = ℚ-ind (λ x. x +q negq x ≡ q0) (λ x. ℚ-set _ _)
    (λ a d. simp on-frac (frac-eq _ _ _ _ (simp on-den (z-ring (a ∷ den d ∷ []) (search zring depth 20) tt))))

mul_assoc : (x y z : ℚ) → x *q y *q z ≡ x *q (y *q z)
mul_assoc = ℚ-ind₃ (λ x y z. x *q y *q z ≡ x *q (y *q z)) (λ x y z. ℚ-set _ _)
    (λ a d b e c f. simp on-frac (frac-eq _ _ _ _ (simp on-den (z-ring (a ∷ b ∷ c ∷ den d ∷ den e ∷ den f ∷ []) (search zring depth 20) tt))))

mul_comm : (x y : ℚ) → x *q y ≡ y *q x
mul_comm = ℚ-ind₂ (λ x y. x *q y ≡ y *q x) (λ x y. ℚ-set _ _)
    (λ a d b e. simp on-frac (frac-eq _ _ _ _ (simp on-den (z-ring (a ∷ b ∷ den d ∷ den e ∷ []) (search zring depth 20) tt))))

mul-one : (x : ℚ) → x *q q1 ≡ x
mul-one = ℚ-ind (λ x. x *q q1 ≡ x) (λ x. ℚ-set _ _)
    (λ a d. simp on-frac (frac-eq _ _ _ _ (simp on-den (z-ring (a ∷ den d ∷ []) (search zring depth 20) tt))))

mul-add : (x y z : ℚ) → x *q (y +q z) ≡ x *q y +q x *q z
mul-add = ℚ-ind₃ (λ x y z. x *q (y +q z) ≡ x *q y +q x *q z) (λ x y z. ℚ-set _ _)
    (λ a d b e c f. simp on-frac (frac-eq _ _ _ _ (simp on-den (z-ring (a ∷ b ∷ c ∷ den d ∷ den e ∷ den f ∷ []) (search zring depth 20) tt))))

pub ℚ-ring : CommRing ◌+q◌ ◌*q◌ negq q0 q1
ℚ-ring = record {
  add_assoc = add_assoc;
  add_comm = add_comm;
  add-zero = add-zero;
  add-neg = add-neg;
  mul_assoc = mul_assoc;
  mul_comm = mul_comm;
  mul-one = mul-one;
  mul-add = mul-add;
}

-- ---- the reciprocal

pub frac-0 : (d : ℕ) → frac z0 d ≡ q0
frac-0 d = simp on-frac (frac-eq _ _ _ _ (simp on-den (z-ring (den d ∷ []) (search zring depth 20) tt)))

one-is : (a : ℤ) (d : ℕ) → a ⊠ den 0 ≡ z1 ⊠ den d → frac a d ≡ q1
one-is a d h = frac-eq a d z1 0 h ∙ sym q1-is

mul-inv' : (a : ℤ) (d : ℕ) → frac a d ≢ q0 → frac a d *q inv (frac a d) ≡ q1
unfolding frac inv den ⊟◌ z0
mul-inv' (pos zero) d h = absurd (h (frac-0 d))
mul-inv' (pos (suc n)) d h = frac-mul (den n) d (den d) n ∙ one-is (den n ⊠ den d) (d ∗ n) (simp on-den (z-ring (den n ∷ den d ∷ []) (search zring depth 20) tt))
mul-inv' (negsuc n) d h = frac-mul (⊟ den n) d (⊟ den d) n ∙ one-is (⊟ den n ⊠ ⊟ den d) (d ∗ n) (simp on-den (z-ring (den n ∷ den d ∷ []) (search zring depth 20) tt))

pub mul-inv : (x : ℚ) → x ≢ q0 → x *q inv x ≡ q1
mul-inv = ℚ-ind (λ x. x ≢ q0 → x *q inv x ≡ q1) (λ x. →_prop (ℚ-set _ _)) mul-inv'

pub inv-0 : inv q0 ≡ q0
unfolding inv q0
inv-0 = refl

-- ---- the sign

nn-frac : (a : ℤ) (d : ℕ) → nn (frac a d) ≡ nonneg a
unfolding nn frac
nn-frac a d = refl

pub nn-0 : T (nn q0)
unfolding nn q0
nn-0 = tt

pub nn-1 : T (nn q1)
unfolding nn q1
nn-1 = tt

pub nn-add : (x y : ℚ) → T (nn x) → T (nn y) → T (nn (x +q y))
nn-add = ℚ-ind₂ (λ x y. T (nn x) → T (nn y) → T (nn (x +q y))) (λ x y. →_prop (→_prop (T_prop (nn (x +q y)))))
    (λ a d b e. simp (frac-add, nn-frac) (λ h k. nonneg-add _ _ (nonneg-mul a (den e) h (nonneg-den e)) (nonneg-mul b (den d) k (nonneg-den d))))

pub nn-mul : (x y : ℚ) → T (nn x) → T (nn y) → T (nn (x *q y))
nn-mul = ℚ-ind₂ (λ x y. T (nn x) → T (nn y) → T (nn (x *q y))) (λ x y. →_prop (→_prop (T_prop (nn (x *q y)))))
    (λ a d b e. simp (frac-mul, nn-frac) (λ h k. nonneg-mul a b h k))

pub nn-antisym : (x : ℚ) → T (nn x) → T (nn (negq x)) → x ≡ q0
nn-antisym = ℚ-ind (λ x. T (nn x) → T (nn (negq x)) → x ≡ q0) (λ x. →_prop (→_prop (ℚ-set _ _)))
    (λ a d. simp (frac-neg, nn-frac) (λ h k. ap (λ c. frac c d) (nonneg-antisym a h k) ∙ frac-0 d))

pub nn-total : (x : ℚ) → T (not (nn x)) → T (nn (negq x))
nn-total = ℚ-ind (λ x. T (not (nn x)) → T (nn (negq x))) (λ x. →_prop (T_prop (nn (negq x)))) (λ a d. simp (frac-neg, nn-frac) (nonneg-total a))
