-- The next nonempty span from a place on.
-- Assumes nothing.
use Rattle.std.specs.Prelude.{Option, Some, None, ℕ, zero, suc, ◌+◌, ◌-◌, cond, List, ltb, Float}
use Rattle.knots.specs.Span.{nonempty}

-- the first nonempty of the k places from s on
unfoldable pub first_of : ℕ → List Float → ℕ → Option ℕ
first_of zero ks s = None
first_of (suc k) ks s = cond (nonempty ks s) (Some s) (first_of k ks (s + 1))

-- the first from s on that is below n
abbrev pub first_from : ℕ → List Float → ℕ → Option ℕ
first_from n ks s = first_of (n - s) ks s

-- the first in p..=n-1 from i on
abbrev pub next_span : ℕ → ℕ → List Float → ℕ → Option ℕ
next_span p n ks i = cond (ltb i p) (first_from n ks p) (first_from n ks i)
