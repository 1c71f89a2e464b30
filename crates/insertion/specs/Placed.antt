-- A list of knots as exact insertions: each at the place that the definition over doubles chooses for it, and with its own value.
-- Assumes nothing.
use Rattle.std.specs.Prelude.{ℕ, ◌+◌, List, [], ◌∷◌, Float}
use Rattle.exact.specs.Boehm.{Insert}
use Rattle.doubles.specs.Value.{val}
use Rattle.knots.specs.Span.{span_of}
use Rattle.insertion.specs.Insert.{more_knots}

-- into a curve of degree p, n points and knots ks
unfoldable pub placed : ℕ → ℕ → List Float → List Float → List Insert
placed p n ks [] = []
placed p n ks (t ∷ ts) = record { place = span_of p n ks t; knot = val t } ∷ placed p (n + 1) (more_knots (span_of p n ks t) t ks) ts

-- every number of a list
abbrev pub Each : (Float → Type 0) → List Float → Type 0
Each P [] = Unit
Each P (t ∷ ts) = P t × Each P ts
