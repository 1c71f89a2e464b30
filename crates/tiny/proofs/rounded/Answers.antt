-- The shifts as powers of two, and the sum before the last one: it is a number of 64 bits.
-- Assumes nothing.
use mathlib.Core.Path.{◌≡◌, sym, ap, ◌∙◌, subst}
use Prim.Native.Nat.{ℕ, suc, ◌+◌, ◌-◌, ◌*◌, ◌/◌, ◌%◌, ◌^◌, ◌≤◌, ◌<◌}
use native.Mathlib.Nat.{one-mul, pow-suc}
use native.Mathlib.Omega.{arith}
use lib.Dec.{lit≤}
use lib.Pow.{pow_pos, pow_mono, shl_exact}
use lib.Ieee.Nearest.{closest}
use Rattle.tiny.proofs.Halves.{half-added}
use Rattle.tiny.proofs.rounded.Goals as goal

-- half of 2^shift
half : (s : ℕ) → 11 ≤ s → s < 64 → (1 * 2 ^ (s - 1)) % 2 ^ 64 ≡ 2 ^ (s - 1)
half s h k = shl_exact {a = 1} 1 (s - 1) 64 (lit≤ tt) (omega arith) ∙ one-mul (2 ^ (s - 1))

twice : (s : ℕ) → 11 ≤ s → 2 ^ (s - 1) * 2 ≡ 2 ^ s
twice s h = sym (pow-suc 2 (s - 1)) ∙ ap (λ (z : ℕ). 2 ^ z) (back s h)
  where
    back : (s : ℕ) → 11 ≤ s → suc (s - 1) ≡ s
    back s h = omega arith

pub record Half (s : ℕ) : Type 0 where
  pub is : (1 * 2 ^ (s - 1)) % 2 ^ 64 ≡ 2 ^ (s - 1)
  pub least : 2 ^ 10 ≤ 2 ^ (s - 1)
  pub most : 2 ^ (s - 1) ≤ 2 ^ 62

pub overflow_sub-result : goal.overflow_sub-result
overflow_sub-result c = let b = (let bounds' : Half c.args.shift = let s = c.args.shift in
    record { is = half s c.requires.1.0 c.requires.1.1; least = pow_mono {i = 10} {j = s - 1} (omega arith); most = pow_mono {i = s - 1} {j = 62} (omega arith) } in bounds') in omega arith

pub overflow_add-result : goal.overflow_add-result
overflow_add-result c = let b = (let bounds' : Half c.args.shift = let s = c.args.shift in
    record { is = half s c.requires.1.0 c.requires.1.1; least = pow_mono {i = 10} {j = s - 1} (omega arith); most = pow_mono {i = s - 1} {j = 62} (omega arith) } in bounds') in omega arith

pub overflow_add-result-2 : goal.overflow_add-result-2
overflow_add-result-2 c = let b = (let bounds' : Half c.args.shift = let s = c.args.shift in
    record { is = half s c.requires.1.0 c.requires.1.1; least = pow_mono {i = 10} {j = s - 1} (omega arith); most = pow_mono {i = s - 1} {j = 62} (omega arith) } in bounds') in omega arith

pub returns : goal.returns
returns c = let b = (let bounds' : Half c.args.shift = let s = c.args.shift in
    record { is = half s c.requires.1.0 c.requires.1.1; least = pow_mono {i = 10} {j = s - 1} (omega arith); most = pow_mono {i = s - 1} {j = 62} (omega arith) } in bounds') in
    let p = c.args.p in
    let s = c.args.shift in
    let h = 2 ^ (s - 1) in
    ap (λ (z : ℕ). z / 2 ^ s) (omega arith)
    ∙ subst (λ (d : ℕ). (p + (h - 1) + p / d % 2) / d ≡ closest p d) (twice s c.requires.1.0) (half-added p h (pow_pos (s - 1)))
