-- Stores into a table of 65 columns.
-- Assumes nothing.
use Prim.Native.Nat.{ℕ, ◌+◌, ◌*◌, ◌<◌}
use mathlib.Core.Path.{◌≡◌}
use mathlib.Core.List.{List}
use native.Mathlib.Omega.{arith}
use lib.ListN.{length, set}
use lib.Seq.{get_or-set_same, get_or-set_other}
use lib.Ieee.{Float, nan}
use Rattle.basis.specs.Basis.{cell}

-- a store at a cell is read there, and no other cell of the table changes
pub put_same : (t : List Float) (a b : ℕ) (x : Float) → a * 65 + b < length t → cell (set t (a * 65 + b) x) a b ≡ x
put_same t a b x h = get_or-set_same t (a * 65 + b) x nan h

pub put-row : (t : List Float) (a b c d : ℕ) (x : Float) → b < 65 → d < 65 → (c ≡ a → ⊥) → cell (set t (a * 65 + b) x) c d ≡ cell t c d
put-row t a b c d x B D h = get_or-set_other t (a * 65 + b) (c * 65 + d) x nan (λ e. h (omega arith))

pub put-col : (t : List Float) (a b c d : ℕ) (x : Float) → b < 65 → d < 65 → (d ≡ b → ⊥) → cell (set t (a * 65 + b) x) c d ≡ cell t c d
put-col t a b c d x B D h = get_or-set_other t (a * 65 + b) (c * 65 + d) x nan (λ e. h (omega arith))
