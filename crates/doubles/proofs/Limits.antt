-- Ends of intervals and comparisons: an end further out still limits, and an interval that does not hold 0 lies on one side of it. Assumes nothing.
use mathlib.Core.Path.{subst}
use mathlib.Core.Logic.{◌⊎◌, inl, inr}
use mathlib.Core.Bool.{Bool, true, false, not, ◌&&◌}
use lib.Dec.{T}
use lib.Ieee.{Float, nan, inf, fin, is_nan, lt, le}
use lib.Ieee.Scale.{finite}
use Rattle.exact.specs.Rational.{ℚ, q0, ◌<q◌}
use Rattle.exact.proofs.Field.{≤-refl, ≤_trans, ≤-<-trans, <-≤-trans}
use Rattle.doubles.specs.Value.{zero+, val, Lower, Upper, Number, ◌⊑◌}
use Rattle.doubles.proofs.Value.{val-lt, val-le, val-zero}
use Rattle.doubles.proofs.Order.{not-le}

pub lower-number : (x : Float) (p : ℚ) → Lower x p → Number x
unfolding is_nan
lower-number nan p h = absurd h
lower-number (inf s) p h = tt
lower-number (fin s m e) p h = tt

pub upper-number : (x : Float) (p : ℚ) → Upper x p → Number x
unfolding is_nan
upper-number nan p h = absurd h
upper-number (inf s) p h = tt
upper-number (fin s m e) p h = tt

-- ---- an end that is further out
pub lower-out : (m x : Float) (p : ℚ) → Number m → m ⊑ x → Lower x p → Lower m p
unfolding lt is_nan
lower-out nan x p n h A = absurd n
lower-out (inf true) x p n h A = tt
lower-out (inf false) nan p n h A = absurd A
lower-out (inf false) (inf true) p n h A = absurd h
lower-out (inf false) (inf false) p n h A = A
lower-out (inf false) (fin t k d) p n h A = absurd h
lower-out (fin s m e) nan p n h A = absurd A
lower-out (fin s m e) (inf true) p n h A = absurd h
lower-out (fin s m e) (inf false) p n h A = absurd A
lower-out (fin s m e) (fin t k d) p n h A = ≤_trans (val-le (fin t k d) (fin s m e) tt tt h) A

pub upper-out : (m x : Float) (p : ℚ) → Number m → x ⊑ m → Upper x p → Upper m p
unfolding lt is_nan
upper-out nan x p n h A = absurd n
upper-out (inf false) x p n h A = tt
upper-out (inf true) nan p n h A = absurd A
upper-out (inf true) (inf false) p n h A = absurd h
upper-out (inf true) (inf true) p n h A = A
upper-out (inf true) (fin t k d) p n h A = absurd h
upper-out (fin s m e) nan p n h A = absurd A
upper-out (fin s m e) (inf false) p n h A = absurd h
upper-out (fin s m e) (inf true) p n h A = absurd A
upper-out (fin s m e) (fin t k d) p n h A = ≤_trans A (val-le (fin s m e) (fin t k d) tt tt h)

-- a finite double is an end of itself
pub lower-self : (x : Float) → T (finite x) → Lower x (val x)
lower-self nan f = absurd f
lower-self (inf s) f = absurd f
lower-self (fin s m e) f = ≤-refl (val (fin s m e))

pub upper_self : (x : Float) → T (finite x) → Upper x (val x)
upper_self nan f = absurd f
upper_self (inf s) f = absurd f
upper_self (fin s m e) f = ≤-refl (val (fin s m e))

-- ---- an interval that holds a number and not 0 lies above 0 or below it
pub end-above : (a : Float) (q : ℚ) → T (lt zero+ a) → Lower a q → q0 <q q
end-above nan q l A = absurd A
end-above (inf true) q l A = absurd (unfold lt in l)
end-above (inf false) q l A = absurd A
end-above (fin s m e) q l A = <-≤-trans (subst (λ z. z <q val (fin s m e)) val-zero (val-lt zero+ (fin s m e) tt tt l)) A

pub end_below : (b : Float) (q : ℚ) → T (lt b zero+) → Upper b q → q <q q0
end_below nan q l B = absurd B
end_below (inf true) q l B = absurd B
end_below (inf false) q l B = absurd (unfold lt in l)
end_below (fin s m e) q l B = ≤-<-trans B (subst (λ z. val (fin s m e) <q z) val-zero (val-lt (fin s m e) zero+ tt tt l))

nand : (a b : Bool) → T (not (a && b)) → T (not a) ⊎ T (not b)
nand true b h = inr h
nand false b h = inl tt

pub off_zero : (a b : Float) (p : ℚ) → Lower a p → Upper b p → T (not (le a zero+ && le zero+ b)) → T (lt zero+ a) ⊎ T (lt b zero+)
off_zero a b p A B h = elim (nand (le a zero+) (le zero+ b) h) [
  | inl n ↦ inl (not-le a zero+ (lower-number a p A) (unfold is_nan in tt) n)
  | inr n ↦ inr (not-le zero+ b (unfold is_nan in tt) (upper-number b p B) n)
]
