-- What an interval is for: `Inside a x` says that the fraction x lies in a. An infinite end sets no limit, a NaN end holds nothing.
use Rattle.std.specs.Prelude.{Result, Ok, Err}
use Rattle.exact.specs.Rational.{ℚ}
use Rattle.doubles.specs.Value.{Lower, Upper}
use Rattle.interval.specs.declared.Interval.{Interval}
use Rattle.interval.specs.declared.DivideError.{DivideError}

pub record Inside (a : Interval) (x : ℚ) : Type 0 where
  pub low : Lower a.lo x
  pub high : Upper a.hi x

-- a quotient that is an interval holds x
abbrev pub Encloses : Result Interval DivideError → ℚ → Type 0
Encloses (Ok c) x = Inside c x
Encloses (Err e) x = Unit
