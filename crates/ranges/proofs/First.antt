-- The first place that a test takes. Assumes nothing.
use Prim.Native.Nat.{ℕ, zero, suc, ◌+◌, ◌-◌, ◌≤◌, ◌<◌}
use mathlib.Core.Path.{◌≡◌, refl}
use mathlib.Core.Bool.{Bool, true, false}
use mathlib.Core.List.{List}
use native.Mathlib.Omega.{arith}
use lib.ListN.{length}
use lib.Ieee.{Float}
use borrow.Author.Tests.{le-leb, lt-ltb}
use Rattle.ranges.specs.Range.{first_from, span_over, span_in}

pub first_taken : (f : ℕ → Bool) (k i : ℕ) → 0 < k → f i ≡ true → first_from f k i ≡ i
unfolding first_from
first_taken f zero i h e = absurd (omega arith)
first_taken f (suc k) i h e = rw e

pub first-passed : (f : ℕ → Bool) (k i : ℕ) → 0 < k → f i ≡ false → first_from f k i ≡ first_from f (k - 1) (i + 1)
unfolding first_from
first-passed f zero i h e = absurd (omega arith)
first-passed f (suc k) i h e = let z : suc k - 1 ≡ k = omega arith in rw (e, z)

pub first-none : (f : ℕ → Bool) (k i : ℕ) → k ≡ 0 → first_from f k i ≡ i
unfolding first_from
first-none f zero i e = refl
first-none f (suc k) i e = absurd (omega arith)

-- where there are knots enough
pub span-in : (p n : ℕ) (ks : List Float) (lo hi : Float) → p ≤ n → n < length ks → span_in p n ks lo hi ≡ span_over p n ks lo hi
unfolding span_in
span-in p n ks lo hi h k = rw (le-leb p n h, lt-ltb n (length ks) k)
