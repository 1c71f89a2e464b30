-- The fraction that a finite double is, and what it is for a double to be an end of an interval of fractions.
use Rattle.std.specs.Prelude.{ℕ, ◌*◌, pred, Bool, true, false, not, T, ℤ, pos, neg_ℤ, Float}
use Rattle.std.specs.Float.{nan, inf, fin}
use Rattle.std.specs.Float.Ieee.{up, down, is_nan, lt}
use Rattle.exact.specs.Rational.{ℚ, frac, ◌≤q◌}

-- the constants 0.0 and 1.0 of a program
abbrev pub zero+ : Float
zero+ = fin false 0 (pos 0)

abbrev pub one+ : Float
one+ = fin false 1 (pos 0)

-- n, or -n where the sign is set
abbrev pub signed : Bool → ℕ → ℤ
signed false n = pos n
signed true n = neg_ℤ (pos n)

-- ±n / d, for a d above 0
unfoldable pub ratio : Bool → ℕ → ℕ → ℚ
ratio s n d = frac (signed s n) (pred d)

-- a finite double, m * 2 ^ e with its sign, as a fraction; 0 for the others, of which nothing is said
unfoldable pub val : Float → ℚ
unfolding ratio
val nan = ratio false 0 1
val (inf s) = ratio false 0 1
val (fin s m e) = ratio s (m * up e) (down e)

-- q is not below the low end x. Minus infinity sets no limit; below plus infinity or a NaN as the low end nothing is held
abbrev pub Lower : Float → ℚ → Type 0
Lower nan q = ⊥
Lower (inf true) q = Unit
Lower (inf false) q = ⊥
Lower (fin s m e) q = val (fin s m e) ≤q q

-- q is not above the high end x
abbrev pub Upper : Float → ℚ → Type 0
Upper nan q = ⊥
Upper (inf true) q = ⊥
Upper (inf false) q = Unit
Upper (fin s m e) q = q ≤q val (fin s m e)

-- no NaN; and, of two such, x is no larger than y
abbrev pub Number : Float → Type 0
Number x = T (not (is_nan x))

infix 50 ◌⊑◌
abbrev pub ◌⊑◌ : Float → Float → Type 0
x ⊑ y = T (not (lt y x))
