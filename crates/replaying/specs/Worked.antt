-- Words, and what is the same as what, computed.
-- Assumes nothing.
use Rattle.std.specs.Prelude.{◌≡◌, refl, [], ◌∷◌}
use Rattle.std.specs.Float.{binary64}
use Rattle.std.specs.Float.Ieee.{of_bits}
use Rattle.replaying.specs.Digits.{digit_of, hex}

-- `3ff8` and `0bad`
pub record Worked : Type 0 where
  pub digits : hex 4 (51 ∷ 102 ∷ 102 ∷ 56 ∷ []) ≡ 0x3ff8
  pub nought-first : hex 4 (48 ∷ 98 ∷ 97 ∷ 100 ∷ []) ≡ 0xbad
  -- a space, a capital and the byte before `a` are no digits
  pub none : hex 4 (32 ∷ 70 ∷ 96 ∷ 49 ∷ []) ≡ 1
  pub nans : of_bits binary64 0x7ff8000000000000 ≡ of_bits binary64 0xfff0000000000001

pub worked : Worked
unfolding digit_of hex of_bits
worked = record { digits = refl; nought-first = refl; none = refl; nans = refl }
