-- Texts of a drawing, and numbers that it rests on, computed.
-- Assumes nothing.
use Rattle.std.specs.Prelude.{ℕ, ◌≡◌, refl, List, [], ◌∷◌, Float}
use Rattle.std.specs.Float.{binary64}
use Rattle.std.specs.Float.Ieee.{of_bits, to_bits, neg, lt, is_nan, add, sub, mul, div, of_int}
use Rattle.doubles.specs.Neighbour.{up_from, down_from}
use Rattle.doubles.specs.Value.{zero+, one+}
use Rattle.interval.specs.declared.Interval.{Interval}
use Rattle.bounds.specs.Start.{min_from, max_from}
use Rattle.decimals.specs.Ascii.{ascii}
use Rattle.decimals.specs.Text.{digit, digits, width, decimal}
use Rattle.decimals.specs.Fixed.{whole, billionths, fixed}
use Rattle.drawing.specs.Drawing.{least_of, greatest_of, extent_of, view_of, number, point_text, label, part_text, sides_text, path_text, refused_text, parts_of, mark_of}

abbrev double : ℕ → Float
double bits = of_bits binary64 bits

abbrev two : Float
two = double 0x4000000000000000

abbrev tenth : Float
tenth = double 0x3fb999999999999a

abbrev twenty-five : Float
twenty-five = double 0x4039000000000000

-- (25, 0), (25, 25), (0, 25)
abbrev arc : List Float
arc = twenty-five ∷ zero+ ∷ zero+ ∷ twenty-five ∷ twenty-five ∷ zero+ ∷ zero+ ∷ twenty-five ∷ zero+ ∷ []

abbrev from-to : Float → Float → Interval
from-to a b = record { lo = a; hi = b }

pub record Drawn : Type 0 where
  pub point : point_text one+ tenth ≡ ascii "1.000000000,0.100000000\n"
  pub path : path_text 5 12 (from-to (neg tenth) tenth) (from-to one+ two) ≡
      ascii "<path id=\"span5-12\" vector-effect=\"non-scaling-stroke\" d=\"M-0.100000001 1.000000000H0.100000001V2.000000000H-0.100000001Z\"/>\n"
  pub refusal : refused_text 5 12 26 ≡ ascii "<!-- span 5-12 refused 26 -->\n"
  pub view : view_of arc ≡ record { x = zero+; y = neg twenty-five; width = twenty-five; height = twenty-five }
  pub flat : extent_of two two ≡ one+
  pub some-parts : parts_of 12 ≡ 78
  pub one-part : parts_of 2730 ≡ 1
  pub middle : mark_of one+ two 39 78 ≡ double 0x3ff8000000000000
  pub last : mark_of one+ two 78 78 ≡ two

pub drawn : Drawn
unfolding ascii digit digits width decimal whole billionths fixed of_bits to_bits neg lt is_nan add sub mul div of_int up_from down_from min_from max_from least_of greatest_of extent_of view_of
    number point_text label part_text sides_text path_text refused_text parts_of mark_of
drawn = record { point = refl; path = refl; refusal = refl; view = refl; flat = refl; some-parts = refl; one-part = refl; middle = refl; last = refl }
