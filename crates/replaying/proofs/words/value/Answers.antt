-- The number of sixteen digits: after i of them it is below 2 to the 4 i, so that no sum wraps.
-- Assumes nothing.
use Prim.Native.Nat.{ℕ, ◌+◌, ◌*◌, ◌^◌, ◌≤◌, ◌<◌}
use native.Mathlib.Numerals.{add-one}
use native.Mathlib.Omega.{arith}
use mathlib.Core.Path.{◌≡◌, ap, ◌∙◌}
use lib.Pow.{pow-add, pow_mono}
use borrow.Author.Rules.{rules}
use Rattle.replaying.specs.Digits.{hex}
use Rattle.replaying.proofs.words.value.Goals as goal

-- one digit more has room in 64 bits
room : (i v : ℕ) → i < 16 → v < 2 ^ (4 * i) → v < 2 ^ 60
room i v h l = let m : 2 ^ (4 * i) ≤ 2 ^ 60 = pow_mono {i = 4 * i} {j = 60} (omega arith) in omega arith

-- and is counted by 16
more : (i v d : ℕ) → v < 2 ^ (4 * i) → d < 16 → 16 * v + d < 2 ^ (4 * (i + 1))
more i v d l h =
    let e : 2 ^ (4 * (i + 1)) ≡ 2 ^ (4 * i) * 16 = ap (λ (n : ℕ). 2 ^ n) (omega arith) ∙ pow-add 2 (4 * i) 4 in
    omega arith

pub loop-i-init : goal.loop-i-init
unfolding hex
loop-i-init c = search rules

pub overflow_mul-v : goal.overflow_mul-v
overflow_mul-v c = let l : c.loop-i.v < 2 ^ 60 = room c.loop-i.i _ (omega arith) c.loop-i.invariant.1 in omega arith

pub overflow_add-v : goal.overflow_add-v
overflow_add-v c = let l : c.loop-i.v < 2 ^ 60 = room c.loop-i.i _ (omega arith) c.loop-i.invariant.1 in omega arith

pub loop-i-preserved : goal.loop-i-preserved
unfolding hex
loop-i-preserved c = (
  rw (c.digit.ensures.value, c.loop-i.invariant.0, add-one),
  more c.loop-i.i c.loop-i.v c.digit.result c.loop-i.invariant.1 c.digit.ensures.upper_bound,
)
