-- Tests one after the other: where the others have passed, the last decides.
-- Assumes nothing.
use mathlib.Core.Bool.{Bool, true, ◌&&◌}
use mathlib.Core.Path.{◌≡◌}

pub last-decides : (a b c d : Bool) → a ≡ true → b ≡ true → c ≡ true → d ≡ (a && (b && (c && d)))
last-decides a b c d e f g = simp (e, f, g)
