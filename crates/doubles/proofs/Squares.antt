-- The ends of a square. Assumes nothing.
use mathlib.Core.Path.{sym, subst}
use mathlib.Core.Logic.{◌⊎◌, inl, inr}
use mathlib.Core.List.{[], ◌∷◌}
use Prim.Native.Nat.{◌*◌}
use mathlib.Core.Bool.{true, false}
use lib.Dec.{T}
use lib.Ieee.{Float, nan, inf, fin, Format, up, down, mul, unlike, fits, is_nan, lt}
use Rattle.exact.specs.Rational.{ℚ, ◌*q◌, q0, ◌≤q◌}
use Rattle.exact.proofs.Field.{qring, q-ring, ≤-refl, ≤_trans, lt→le, le-or-lt, le-by, le-sub, mul-nonneg, up_left, up_right, down-left, down-right}
use Rattle.doubles.specs.Value.{zero+, Lower, Upper, Number, ◌⊑◌}
use Rattle.doubles.specs.Neighbour.{up_from, down_from}
use Rattle.doubles.proofs.Value.{val-zero}
use Rattle.doubles.proofs.Enclose.{round_number}
use Rattle.doubles.proofs.Sums.{mul-rounded, rounded-lower, rounded-upper, up-high}
use Rattle.doubles.proofs.Limits.{end-above, end_below}

-- 0 ≤ x ≤ y, or y ≤ x ≤ 0: the square grows
square-up : {x y : ℚ} → q0 ≤q x → x ≤q y → x *q x ≤q y *q y
square-up {x} {y} h k = ≤_trans (up_left x h k) (up_right y (≤_trans h k) k)

square-down : {x y : ℚ} → x ≤q q0 → y ≤q x → x *q x ≤q y *q y
square-down {x} {y} h k = ≤_trans (down-left x h k) (down-right y (≤_trans k h) k)

pub square-nonneg : (p : ℚ) → q0 ≤q p *q p
square-nonneg p = elim (le-or-lt q0 p) [ inl h ↦ mul-nonneg h h | inr h ↦ le-by (mul-nonneg (le-sub (lt→le h)) (le-sub (lt→le h))) (q-ring (p ∷ []) (search qring depth 20) tt) ]

pub zero-lower : (p : ℚ) → Lower zero+ (p *q p)
zero-lower p = subst (λ z. z ≤q p *q p) (sym val-zero) (square-nonneg p)

pub square-number : (f : Format) (x : Float) → Number x → Number (mul f x x)
unfolding mul is_nan
square-number f nan n = absurd n
square-number f (inf s) n = tt
square-number f (fin s m e) n = unfold is_nan in round_number f (unlike s s) (m * up e * (m * up e)) (down e * down e)

high-only : (f : Format) (m : Float) (q : ℚ) → Number m → inf false ⊑ m → Upper (up_from f m) q
unfolding lt is_nan
high-only f nan q n h = absurd n
high-only f (inf true) q n h = absurd h
high-only f (inf false) q n h = up-high f q
high-only f (fin s k d) q n h = absurd h

module _ (f : Format) (m : Float) (hm : T (fits f m)) (nm : Number m) (p : ℚ) where
  by-hi : (b : Float) → Upper b p → q0 ≤q p → mul f b b ⊑ m → Upper (up_from f m) (p *q p)
  by-hi nan B Z g = absurd B
  by-hi (inf true) B Z g = absurd B
  by-hi (inf false) B Z g = high-only f m (p *q p) nm (unfold mul in g)
  by-hi (fin s k e) B Z g = rounded-upper f (mul-rounded f s k e s k e) m hm nm g (square-up Z B)

  by-lo : (a : Float) → Lower a p → p ≤q q0 → mul f a a ⊑ m → Upper (up_from f m) (p *q p)
  by-lo nan A Z g = absurd A
  by-lo (inf false) A Z g = absurd A
  by-lo (inf true) A Z g = high-only f m (p *q p) nm (unfold mul in g)
  by-lo (fin s k e) A Z g = rounded-upper f (mul-rounded f s k e s k e) m hm nm g (square-down Z A)

  pub square-upper : (a b : Float) → Lower a p → Upper b p → mul f a a ⊑ m → mul f b b ⊑ m → Upper (up_from f m) (p *q p)
  square-upper a b A B g h = elim (le-or-lt q0 p) [ inl Z ↦ by-hi b B Z h | inr Z ↦ by-lo a A (lt→le Z) g ]

  above : (a : Float) → Lower a p → T (lt zero+ a) → m ⊑ mul f a a → Lower (down_from f m) (p *q p)
  above nan A l g = absurd A
  above (inf true) A l g = absurd (unfold lt in l)
  above (inf false) A l g = absurd A
  above (fin s k e) A l g = rounded-lower f (mul-rounded f s k e s k e) m hm nm g (square-up (lt→le (end-above (fin s k e) _ l (≤-refl _))) A)

  under : (b : Float) → Upper b p → T (lt b zero+) → m ⊑ mul f b b → Lower (down_from f m) (p *q p)
  under nan B l g = absurd B
  under (inf true) B l g = absurd B
  under (inf false) B l g = absurd (unfold lt in l)
  under (fin s k e) B l g = rounded-lower f (mul-rounded f s k e s k e) m hm nm g (square-down (lt→le (end_below (fin s k e) _ l (≤-refl _))) B)

  pub square-lower : (a b : Float) → Lower a p → Upper b p → T (lt zero+ a) ⊎ T (lt b zero+) → m ⊑ mul f a a → m ⊑ mul f b b → Lower (down_from f m) (p *q p)
  square-lower a b A B o g h = elim o [ inl l ↦ above a A l g | inr l ↦ under b B l h ]
