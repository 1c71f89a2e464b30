-- The size of a record from its counts: where the format holds it, and where it does not.
-- Assumes nothing.
use Rattle.std.specs.Prelude.{Some, None}
use Prim.Native.Nat.{ℕ, ◌+◌, ◌*◌, ◌≤◌, ◌<◌}
use mathlib.Core.Bool.{Bool, true, false, cond, ◌&&◌}
use mathlib.Core.Path.{◌≡◌, refl}
use native.Mathlib.Omega.{arith}
use lib.Dec.{leb}
use borrow.Author.Tests.{lt-ltb, le-ltb, lt-leb}
use Rattle.record.specs.Writing.{size_of}

and-false : (b : Bool) → (b && false) ≡ false
and-false true = refl
and-false false = refl

module _ (p k n more : ℕ) where
  pub size-high : 65535 < p → None ≡ size_of p k n more
  size-high h = rw (le-ltb p 65536 h)

  pub size-long : 65536 < 11 + 8 * k + 8 * n + more → None ≡ size_of p k n more
  size-long h = rw (lt-leb (11 + 8 * k + 8 * n + more) 65536 h, and-false)

  pub size_is : p ≤ 65535 → cond (leb (11 + 8 * k + 8 * n + more) 65536) (Some (11 + 8 * k + 8 * n + more)) None ≡ size_of p k n more
  size_is h = rw (lt-ltb p 65536 (omega arith))
