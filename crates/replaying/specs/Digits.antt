-- The numbers of a list, which are hexadecimal digits in ASCII.
-- Assumes nothing.
use Rattle.std.specs.Prelude.{ℕ, zero, suc, ◌+◌, ◌-◌, ◌*◌, cond, ◌&&◌, List, get_or, leb, ltb}

-- what a byte counts: `0` to `9`, then `a` to `f`; any other byte counts 0
unfoldable pub digit_of : ℕ → ℕ
digit_of b = cond (leb 48 b && ltb b 58) (b - 48) (cond (leb 97 b && ltb b 103) (b - 87) 0)

-- the number of the first k digits of a text, the most significant first
unfoldable pub hex : ℕ → List ℕ → ℕ
hex zero l = 0
hex (suc k) l = 16 * hex k l + digit_of (get_or l k 0)
