-- What a jet stands for: a fraction with its two derivatives. Definitions only.
use Rattle.exact.specs.Rational.{ℚ}

-- a number with its derivatives along u and v
pub record Three : Type 0 where
  pub value : ℚ
  pub du : ℚ
  pub dv : ℚ
