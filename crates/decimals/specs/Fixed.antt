-- A double as a decimal with nine digits behind the point, rounded down or up. A text is its bytes in ASCII.
-- Assumes nothing.
use Rattle.std.specs.Prelude.{ℕ, ◌+◌, ◌-◌, ◌*◌, ◌/◌, Bool, true, false, ◌&&◌, cond, List, [], ◌∷◌, ◌++◌, ltb, ℤ, Float}
use Rattle.std.specs.Float.{nan, inf, fin}
use Rattle.std.specs.Float.Ieee.{up, down, unlike}
use Rattle.exact.specs.Rational.{ℚ}
use Rattle.doubles.specs.Value.{ratio}
use Rattle.decimals.specs.Text.{digits, width}

-- n / d as a whole number: the part before the point, or, where it is to be no smaller, the least such
unfoldable pub whole : Bool → ℕ → ℕ → ℕ
whole false n d = n / d
whole true n d = (n + (d - 1)) / d

abbrev pub minus : Bool → List ℕ
minus s = cond s (45 ∷ []) []

-- ±q billionths, with no sign at 0. No double has more than 309 digits before the point
unfoldable pub billionths : Bool → ℕ → List ℕ
billionths s q = minus (s && ltb 0 q) ++ (digits 10 (width 318 (q / 1000000000)) (q / 1000000000) ++ (46 ∷ digits 10 9 q))

-- a double rounded down, or up where `above`: away from 0 where 0 is on the other side. Else `inf`, `-inf`, `nan`
unfoldable pub fixed : Bool → Float → List ℕ
fixed above nan = 110 ∷ 97 ∷ 110 ∷ []
fixed above (inf s) = minus s ++ (105 ∷ 110 ∷ 102 ∷ [])
fixed above (fin s m e) = billionths s (whole (unlike above s) (m * up e * 1000000000) (down e))

-- the fraction that `fixed above (fin s m e)` writes
abbrev pub written : Bool → Bool → ℕ → ℤ → ℚ
written above s m e = ratio s (whole (unlike above s) (m * up e * 1000000000) (down e)) 1000000000
