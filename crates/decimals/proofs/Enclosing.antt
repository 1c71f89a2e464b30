-- Decimals enclose: the one rounded down is no larger than the double, the one rounded up no smaller. By `cut` and `raised` of Rounding no closer one does either.
-- Assumes nothing.
use Prim.Native.Nat.{ℕ, ◌*◌}
use mathlib.Core.Bool.{Bool, true, false}
use native.Mathlib.Omega.{arith}
use lib.Arith.{le→nltb}
use lib.IntN.{ℤ}
use lib.Ieee.{fin, up, down}
use lib.Ieee.Fits.{down_pos}
use Rattle.exact.specs.Rational.{ℚ, ◌≤q◌}
use Rattle.exact.proofs.Field.{≤_trans}
use Rattle.doubles.specs.Value.{val, Lower, Upper}
use Rattle.doubles.proofs.Value.{ratio-le, val_is}
use Rattle.decimals.specs.Fixed.{whole, written}
use Rattle.decimals.proofs.Rounding.{cut, raised}

pub written_below : (s : Bool) (m : ℕ) (e : ℤ) → written false s m e ≤q val (fin s m e)
written_below false m e =
    rw (val_is false m e)
    (ratio-le false (m * up e) (down e) false (whole false (m * up e * 1000000000) (down e)) 1000000000 (down_pos e) (omega arith) (le→nltb _ _ (cut (m * up e * 1000000000) (down e) (down_pos e)).0))
written_below true m e =
    rw (val_is true m e)
    (ratio-le true (m * up e) (down e) true (whole true (m * up e * 1000000000) (down e)) 1000000000 (down_pos e) (omega arith) (le→nltb _ _ (raised (m * up e * 1000000000) (down e) (down_pos e)).0))

pub written-above : (s : Bool) (m : ℕ) (e : ℤ) → val (fin s m e) ≤q written true s m e
written-above false m e =
    rw (val_is false m e)
    (ratio-le
    false (whole true (m * up e * 1000000000) (down e)) 1000000000 false (m * up e) (down e) (omega arith) (down_pos e) (le→nltb _ _ (raised (m * up e * 1000000000) (down e) (down_pos e)).0))
written-above true m e =
    rw (val_is true m e)
    (ratio-le true (whole false (m * up e * 1000000000) (down e)) 1000000000 true (m * up e) (down e) (omega arith) (down_pos e) (le→nltb _ _ (cut (m * up e * 1000000000) (down e) (down_pos e)).0))

-- so what lies between two doubles lies between their decimals
pub low-holds : (s : Bool) (m : ℕ) (e : ℤ) {t : ℚ} → Lower (fin s m e) t → written false s m e ≤q t
low-holds s m e h = ≤_trans (written_below s m e) h

pub high-holds : (s : Bool) (m : ℕ) (e : ℤ) {t : ℚ} → Upper (fin s m e) t → t ≤q written true s m e
high-holds s m e h = ≤_trans h (written-above s m e)
