-- Two numbers compared, in the cases that the proofs go by.
-- Assumes nothing.
use Prim.Native.Nat.{ℕ, zero, suc, ◌≤◌, ◌<◌, zero-le}
use mathlib.Core.Path.{◌≡◌, refl}
use mathlib.Core.Logic.{◌⊎◌, inl, inr}
use native.Mathlib.Omega.{arith}

pub lt-or-ge : (a b : ℕ) → (a < b) ⊎ (b ≤ a)
lt-or-ge a zero = inr zero-le
lt-or-ge zero (suc b) = inl (omega arith)
lt-or-ge (suc a) (suc b) = elim (lt-or-ge a b) [ inl l ↦ inl (omega arith) | inr g ↦ inr (omega arith) ]

pub eq-zero : (j : ℕ) → (j ≡ 0) ⊎ (0 < j)
eq-zero zero = inl refl
eq-zero (suc j) = inr (omega arith)
