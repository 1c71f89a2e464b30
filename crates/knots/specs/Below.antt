-- A test over every place below a bound: whether it passes at all of them, and the first where it fails.
use Rattle.std.specs.Prelude.{ℕ, zero, suc, Bool, true, ◌&&◌, cond}

-- the test f passes at every place below n
unfoldable pub all_below : (ℕ → Bool) → ℕ → Bool
all_below f zero = true
all_below f (suc n) = all_below f n && f n

-- the first place below n where the test f fails; n where it passes at all
unfoldable pub off_at : (ℕ → Bool) → ℕ → ℕ
off_at f zero = zero
off_at f (suc n) = cond (all_below f (suc n)) (suc n) (off_at f n)
