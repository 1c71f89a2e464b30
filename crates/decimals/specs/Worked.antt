-- Some numbers as text, computed.
-- Assumes nothing.
use Rattle.std.specs.Prelude.{ℕ, true, false, ◌≡◌, refl, [], ◌∷◌, Float}
use Rattle.std.specs.Float.{binary64}
use Rattle.std.specs.Float.Ieee.{of_bits}
use Rattle.decimals.specs.Text.{digit, digits, width, decimal}
use Rattle.decimals.specs.Fixed.{whole, billionths, fixed}

abbrev double : ℕ → Float
double bits = of_bits binary64 bits

pub record Wholes : Type 0 where
  pub nought : decimal 0 ≡ 48 ∷ []
  pub longest : decimal 0xffffffffffffffff ≡
      49 ∷ 56 ∷ 52 ∷ 52 ∷ 54 ∷ 55 ∷ 52 ∷ 52 ∷ 48 ∷ 55 ∷ 51 ∷ 55 ∷ 48 ∷ 57 ∷ 53 ∷ 53 ∷ 49 ∷ 54 ∷ 49 ∷ 53 ∷ []

-- decimals rounded down and up
pub record Decimals : Type 0 where
  pub a_tenth : fixed false (double 0x3fb999999999999a) ≡ 48 ∷ 46 ∷ 49 ∷ 48 ∷ 48 ∷ 48 ∷ 48 ∷ 48 ∷ 48 ∷ 48 ∷ 48 ∷ []
  pub a-tenth-up : fixed true (double 0x3fb999999999999a) ≡ 48 ∷ 46 ∷ 49 ∷ 48 ∷ 48 ∷ 48 ∷ 48 ∷ 48 ∷ 48 ∷ 48 ∷ 49 ∷ []
  pub minus-a-tenth : fixed false (double 0xbfb999999999999a) ≡ 45 ∷ 48 ∷ 46 ∷ 49 ∷ 48 ∷ 48 ∷ 48 ∷ 48 ∷ 48 ∷ 48 ∷ 48 ∷ 49 ∷ []
  pub a-third-of-ten : fixed false (double 0x400aaaaaaaaaaaab) ≡ 51 ∷ 46 ∷ 51 ∷ 51 ∷ 51 ∷ 51 ∷ 51 ∷ 51 ∷ 51 ∷ 51 ∷ 51 ∷ []
  pub smallest-up : fixed true (double 0x1) ≡ 48 ∷ 46 ∷ 48 ∷ 48 ∷ 48 ∷ 48 ∷ 48 ∷ 48 ∷ 48 ∷ 48 ∷ 49 ∷ []
  pub no_minus : fixed true (double 0x8000000000000001) ≡ 48 ∷ 46 ∷ 48 ∷ 48 ∷ 48 ∷ 48 ∷ 48 ∷ 48 ∷ 48 ∷ 48 ∷ 48 ∷ []
  pub minus-infinity : fixed true (double 0xfff0000000000000) ≡ 45 ∷ 105 ∷ 110 ∷ 102 ∷ []

pub wholes : Wholes
unfolding digit digits width decimal
wholes = record { nought = refl; longest = refl }

pub decimals : Decimals
unfolding digit digits width whole billionths fixed of_bits
decimals = record { a_tenth = refl; a-tenth-up = refl; minus-a-tenth = refl; a-third-of-ten = refl; smallest-up = refl; no_minus = refl; minus-infinity = refl }
