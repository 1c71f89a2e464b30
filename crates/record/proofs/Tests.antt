-- What the tests on the way to an answer said: `no` is what a failed test gives, and the answer is another.
-- Assumes nothing.
use Rattle.std.specs.Prelude.{Option, Some, None}
use Prim.Native.Nat.{ℕ, ◌<◌}
use mathlib.Core.Bool.{Bool, true, false, cond, ◌&&◌}
use mathlib.Core.Path.{◌≡◌, refl, subst}
use mathlib.Core.Logic.{◌⊎◌, inl, inr}
use native.Mathlib.Omega.{arith}
use Rattle.knots.proofs.Below.{and_left, and_right}
use Rattle.record.specs.Reading.{on_count, Below}

pub either : {X : Type 0} (answer : X) (b : Bool) (x y : X) → cond b x y ≡ answer → ((b ≡ true) × (x ≡ answer)) ⊎ ((b ≡ false) × (y ≡ answer))
either answer true x y e = inl (refl, e)
either answer false x y e = inr (refl, e)

module _ {X : Type 0} (no answer : X) (apart : no ≡ answer → ⊥) where
  pub past : (b : Bool) (x : X) → cond b no x ≡ answer → (b ≡ false) × (x ≡ answer)
  past true x e = absurd (apart e)
  past false x e = (refl, e)

  pub held : (b : Bool) (x : X) → cond b x no ≡ answer → (b ≡ true) × (x ≡ answer)
  held true x e = (refl, e)
  held false x e = absurd (apart e)

  pub counted : (x : Option ℕ) (f : ℕ → X) → on_count x no f ≡ answer → (m : ℕ) × (x ≡ Some m) × (f m ≡ answer)
  counted None f e = absurd (apart e)
  counted (Some m) f e = (m, refl, e)

pub both : (a b : Bool) → (a && b) ≡ true → (a ≡ true) × (b ≡ true)
both a b e = (and_left a b e, and_right a b e)

pub bad-is : {n : ℕ} → None ≡ Some n → ⊥
bad-is {n} e = let z : ◌≡◌ {A = ℕ} 0 1 = cc in omega arith

pub is_same : {m n : ℕ} → Some m ≡ Some n → m ≡ n
is_same e = cc

pub is_below : (m n : ℕ) (x : Option ℕ) → x ≡ Some n → Below m x → n < m
is_below m n x e h = subst (λ (y : Option ℕ). Below m y) e h
