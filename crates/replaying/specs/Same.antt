-- When an answer is the one that a list wants.
-- Assumes nothing.
use Rattle.std.specs.Prelude.{ℕ, Bool, true, ◌⊎◌, ◌≡◌, Float}
use Rattle.std.specs.Float.{binary64}
use Rattle.std.specs.Float.Ieee.{of_bits, eq}
use Rattle.interval.specs.declared.Interval.{Interval}

-- either zero
abbrev pub Zero : Float → Type 0
Zero x = eq x (of_bits binary64 0) ≡ true

-- the answer is the double of the wanted pattern, where every NaN is one double; or, where a zero may have either sign, both are zeros
abbrev pub Same : Float → ℕ → Bool → Type 0
Same x want either = (x ≡ of_bits binary64 want) ⊎ ((either ≡ true) × (Zero x × Zero (of_bits binary64 want)))

-- the ends of an interval are those wanted
pub record SameEnds (i : Interval) (lo hi : ℕ) (either : Bool) : Type 0 where
  pub low : Same i.lo lo either
  pub high : Same i.hi hi either

-- a judge says true where a fact holds, and nowhere else
pub record Judges (Fact : Type 0) (r : Bool) : Type 0 where
  pub holds : r ≡ true → Fact
  pub says : Fact → r ≡ true
