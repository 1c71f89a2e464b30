-- The integers as an ordered commutative ring, with operations that stay shut. Assumes nothing.
use Rattle.std.specs.Prelude.{◌≡◌, refl, Bool, true, false, not, ℕ, zero, suc, ◌+◌, ◌*◌, T, ℤ, pos, negsuc, nat_abs}
use Rattle.std.proofs.Common.{sym, ◌∙◌, ap, ap₂, arith}
use Rattle.std.proofs.Math.IntN as Z
use Rattle.std.proofs.Math.IntN.{suc_ℤ, pred_ℤ, ◌+ℤ◌, ◌*ℤ◌, ◌-ℤ◌}
use Rattle.ring.specs.Ring as Ring
use Rattle.ring.specs.Ring.{CommRing}

infixl 6 ◌⊞◌
infixl 7 ◌⊠◌
infix 8 ⊟◌
unfoldable pub ◌⊞◌ : ℤ → ℤ → ℤ
a ⊞ b = Z.◌+ℤ◌ a b

unfoldable pub ◌⊠◌ : ℤ → ℤ → ℤ
a ⊠ b = Z.◌*ℤ◌ a b

unfoldable pub ⊟◌ : ℤ → ℤ
⊟ a = Z.neg_ℤ a

unfoldable pub z0 : ℤ
z0 = pos 0

unfoldable pub z1 : ℤ
z1 = pos 1

ind : (P : ℤ → Type 0) → P (pos zero) → ((a : ℤ) → P a → P (suc_ℤ a)) → ((a : ℤ) → P a → P (pred_ℤ a)) → (a : ℤ) → P a
ind P z s p (pos zero) = z
ind P z s p (pos (suc n)) = s (pos n) (ind P z s p (pos n))
ind P z s p (negsuc zero) = p (pos zero) z
ind P z s p (negsuc (suc n)) = p (negsuc n) (ind P z s p (negsuc n))

swap : (a b c : ℤ) → a +ℤ b +ℤ c ≡ a +ℤ c +ℤ b
swap a b c = Z.+ℤ_assoc a b c ∙ ap (λ x. a +ℤ x) (Z.+ℤ_comm b c) ∙ sym (Z.+ℤ_assoc a c b)

add-mul : (a b c : ℤ) → (a +ℤ b) *ℤ c ≡ a *ℤ c +ℤ b *ℤ c
add-mul a b c = ind (λ x. (x +ℤ b) *ℤ c ≡ x *ℤ c +ℤ b *ℤ c)
    (ap (λ x. x *ℤ c) (Z.+ℤ_idl b) ∙ sym (ap (λ x. x +ℤ b *ℤ c) (Z.zero-*ℤ c) ∙ Z.+ℤ_idl (b *ℤ c)))
    (λ x h. ap (λ y. y *ℤ c) (Z.suc_ℤ-+ℤ x b) ∙ Z.suc_ℤ-*ℤ (x +ℤ b) c ∙ ap (λ y. y +ℤ c) h ∙ swap (x *ℤ c) (b *ℤ c) c ∙ ap (λ y. y +ℤ b *ℤ c) (sym (Z.suc_ℤ-*ℤ x c)))
    (λ x h. ap (λ y. y *ℤ c) (Z.pred_ℤ-+ℤ x b) ∙ Z.pred_ℤ-*ℤ (x +ℤ b) c ∙ ap (λ y. y -ℤ c) h ∙ swap (x *ℤ c) (b *ℤ c) (Z.neg_ℤ c) ∙ ap (λ y. y +ℤ b *ℤ c) (sym (Z.pred_ℤ-*ℤ x c)))
    a

neg-mul : (b c : ℤ) → Z.neg_ℤ b *ℤ c ≡ Z.neg_ℤ (b *ℤ c)
neg-mul b c = ind (λ x. Z.neg_ℤ x *ℤ c ≡ Z.neg_ℤ (x *ℤ c))
    (Z.zero-*ℤ c ∙ sym (ap Z.neg_ℤ (Z.zero-*ℤ c)))
    (λ x h. ap (λ y. y *ℤ c) (Z.neg_ℤ-suc_ℤ x) ∙ Z.pred_ℤ-*ℤ (Z.neg_ℤ x) c ∙ ap (λ y. y -ℤ c) h ∙ sym (ap Z.neg_ℤ (Z.suc_ℤ-*ℤ x c) ∙ Z.neg_ℤ-+ℤ (x *ℤ c) c))
    (λ x h. ap (λ y. y *ℤ c) (Z.neg_ℤ-pred_ℤ x) ∙ Z.suc_ℤ-*ℤ (Z.neg_ℤ x) c ∙ ap (λ y. y +ℤ c) h ∙ sym
    (ap Z.neg_ℤ (Z.pred_ℤ-*ℤ x c) ∙ Z.neg_ℤ-+ℤ (x *ℤ c) (Z.neg_ℤ c) ∙ ap (λ y. Z.neg_ℤ (x *ℤ c) +ℤ y) (Z.neg_ℤ-neg_ℤ c)))
    b

mul_assoc : (a b c : ℤ) → a *ℤ b *ℤ c ≡ a *ℤ (b *ℤ c)
mul_assoc a b c = ind (λ x. x *ℤ b *ℤ c ≡ x *ℤ (b *ℤ c))
    (ap (λ x. x *ℤ c) (Z.zero-*ℤ b) ∙ Z.zero-*ℤ c ∙ sym (Z.zero-*ℤ (b *ℤ c)))
    (λ x h. ap (λ y. y *ℤ c) (Z.suc_ℤ-*ℤ x b) ∙ add-mul (x *ℤ b) b c ∙ ap (λ y. y +ℤ b *ℤ c) h ∙ sym (Z.suc_ℤ-*ℤ x (b *ℤ c)))
    (λ x h. ap (λ y. y *ℤ c) (Z.pred_ℤ-*ℤ x b) ∙ add-mul (x *ℤ b) (Z.neg_ℤ b) c ∙ ap₂ ◌+ℤ◌ h (neg-mul b c) ∙ sym (Z.pred_ℤ-*ℤ x (b *ℤ c)))
    a

mul-add : (a b c : ℤ) → a *ℤ (b +ℤ c) ≡ a *ℤ b +ℤ a *ℤ c
mul-add a b c = Z.*ℤ_comm a (b +ℤ c) ∙ add-mul b c a ∙ ap₂ ◌+ℤ◌ (Z.*ℤ_comm b a) (Z.*ℤ_comm c a)

mul-one : (a : ℤ) → a *ℤ pos 1 ≡ a
unfolding Z.one
mul-one a = Z.*ℤ-one a

pub ℤ-ring : CommRing ◌⊞◌ ◌⊠◌ ⊟◌ z0 z1
unfolding ◌⊞◌ ◌⊠◌ ⊟◌ z0 z1
ℤ-ring = record {
  add_assoc = Z.+ℤ_assoc;
  add_comm = Z.+ℤ_comm;
  add-zero = Z.+ℤ_idr;
  add-neg = Z.+ℤ_invr;
  mul_assoc = mul_assoc;
  mul_comm = Z.*ℤ_comm;
  mul-one = mul-one;
  mul-add = mul-add;
}

pub z-combine : (k : ℤ) {u v x y : ℤ} → u ≡ v → x ⊞ k ⊠ v ≡ y ⊞ k ⊠ u → x ≡ y
z-combine k h e = Ring.combine ℤ-ring k h e

-- ---- a positive denominator, by the number before it

unfoldable pub den : ℕ → ℤ
den d = pos (suc d)

-- the product of two
infixl 7 ◌∗◌
unfoldable pub ◌∗◌ : ℕ → ℕ → ℕ
d ∗ e = d * e + d + e

pub suc-prod : (d e : ℕ) → suc d * suc e ≡ suc (d * e + d + e)
suc-prod d e = omega arith

pub den-mul : (d e : ℕ) → den (d ∗ e) ≡ den d ⊠ den e
unfolding den ◌∗◌ ◌⊠◌
den-mul d e = ap pos (sym (suc-prod d e))

pub den-0 : den 0 ≡ z1
unfolding den z1
den-0 = refl

-- ---- the numbers that are not negative

unfoldable pub nonneg : ℤ → Bool
nonneg (pos a) = true
nonneg (negsuc a) = false

pub nonneg-den : (d : ℕ) → T (nonneg (den d))
unfolding nonneg den
nonneg-den d = tt

pub nonneg-0 : T (nonneg z0)
unfolding nonneg z0
nonneg-0 = tt

pub nonneg-1 : T (nonneg z1)
unfolding nonneg z1
nonneg-1 = tt

pub nonneg-add : (a b : ℤ) → T (nonneg a) → T (nonneg b) → T (nonneg (a ⊞ b))
unfolding nonneg ◌⊞◌
nonneg-add (pos a) (pos b) h k = tt
nonneg-add (pos a) (negsuc b) h k = absurd k
nonneg-add (negsuc a) b h k = absurd h

pub nonneg-mul : (a b : ℤ) → T (nonneg a) → T (nonneg b) → T (nonneg (a ⊠ b))
unfolding nonneg ◌⊠◌
nonneg-mul (pos a) (pos b) h k = tt
nonneg-mul (pos a) (negsuc b) h k = absurd k
nonneg-mul (negsuc a) b h k = absurd h

pub nonneg-antisym : (a : ℤ) → T (nonneg a) → T (nonneg (⊟ a)) → a ≡ z0
unfolding nonneg ⊟◌ z0
nonneg-antisym (pos zero) h k = refl
nonneg-antisym (pos (suc a)) h k = absurd k
nonneg-antisym (negsuc a) h k = absurd h

pub nonneg-total : (a : ℤ) → T (not (nonneg a)) → T (nonneg (⊟ a))
unfolding nonneg ⊟◌
nonneg-total (pos a) h = absurd h
nonneg-total (negsuc a) h = tt

pub nonneg-times : (a : ℤ) (d : ℕ) → nonneg (a ⊠ den d) ≡ nonneg a
unfolding nonneg ◌⊠◌ den
nonneg-times (pos a) d = refl
nonneg-times (negsuc a) d = rw (suc-prod a d)

-- ---- a product that is 0

pos_inj : {m n : ℕ} → pos m ≡ pos n → m ≡ n
pos_inj h = ap nat_abs h

pub den-cancel-0 : (a : ℤ) (d : ℕ) → a ⊠ den d ≡ z0 → a ≡ z0
unfolding ◌⊠◌ den z0
den-cancel-0 (pos zero) d h = refl
den-cancel-0 (pos (suc a)) d h = let e : suc a * suc d ≡ 0 = pos_inj h in absurd (omega (arith, suc-prod a d))
den-cancel-0 (negsuc a) d h = let e : suc (a * d + a + d) ≡ 0 = ap nat_abs (rw suc-prod at h) in absurd (omega arith)
