-- What is printed of table A and of a refusal, computed.
-- Assumes nothing.
use Rattle.std.specs.Prelude.{ℕ, ◌≡◌, refl, List, [], ◌∷◌, ◌++◌, Float}
use Rattle.std.specs.Float.{binary64}
use Rattle.std.specs.Float.Ieee.{of_bits, to_bits, lt}
use Rattle.knots.specs.Refusal.{refuse, placed}
use Rattle.knots.specs.declared.refusal.Reason.TheVariants.{KnotsUnordered, RecordMalformed}
use Rattle.decimals.specs.Text.{digit, digits, width, decimal, spaced_bits}
use Rattle.listing.specs.Text.{span_line, says_place, place_text, refusal_line}
use Rattle.listing.specs.Listing.{line_of, lines_of, listing}

abbrev double : ℕ → Float
double bits = of_bits binary64 bits

-- 0 0 0 1 2 2 2
abbrev knots_a : List Float
knots_a =
    double 0x0
    ∷ double 0x0
    ∷ double 0x0
    ∷ double 0x3ff0000000000000
    ∷ double 0x4000000000000000
    ∷ double 0x4000000000000000
    ∷ double 0x4000000000000000
    ∷ []

-- ASCII
abbrev zeros : List ℕ
zeros = 48 ∷ 48 ∷ 48 ∷ 48 ∷ 48 ∷ 48 ∷ 48 ∷ 48 ∷ 48 ∷ 48 ∷ 48 ∷ 48 ∷ 48 ∷ []

abbrev bits0 : List ℕ
bits0 = 48 ∷ 48 ∷ 48 ∷ zeros

abbrev bits1 : List ℕ
bits1 = 51 ∷ 102 ∷ 102 ∷ zeros

abbrev bits2 : List ℕ
bits2 = 52 ∷ 48 ∷ 48 ∷ zeros

pub record Worked : Type 0 where
  pub table-a : listing (line_of knots_a) 2 4 knots_a ≡ (50 ∷ 32 ∷ bits0) ++ (32 ∷ bits1) ++ (10 ∷ 51 ∷ 32 ∷ bits1) ++ (32 ∷ bits2) ++ (10 ∷ [])
  pub unordered : refusal_line (placed 3 (refuse KnotsUnordered)) ≡ 114 ∷ 101 ∷ 102 ∷ 117 ∷ 115 ∷ 101 ∷ 100 ∷ 32 ∷ 52 ∷ 32 ∷ 51 ∷ 10 ∷ []
  pub malformed : refusal_line (refuse RecordMalformed) ≡ 114 ∷ 101 ∷ 102 ∷ 117 ∷ 115 ∷ 101 ∷ 100 ∷ 32 ∷ 51 ∷ 51 ∷ 10 ∷ []

pub worked : Worked
unfolding digit digits width decimal spaced_bits span_line says_place place_text refusal_line line_of lines_of listing of_bits to_bits lt
worked = record { table-a = refl; unordered = refl; malformed = refl }
