-- The ends of a product of two intervals: of p in [a, b] and q in [c, d] the product lies above `next_down m` for any m that is no larger than each of the four rounded products of
-- ends, none of which is a NaN.
-- An end may be an infinity. The upper end is the mirror of the lower. Assumes nothing.
use mathlib.Core.Path.{◌≡◌, refl, sym, ap, ◌∙◌, subst}
use mathlib.Core.Logic.{inl, inr}
use mathlib.Core.List.{[], ◌∷◌}
use Prim.Native.Nat.{ℕ, zero, suc, ◌*◌}
use mathlib.Core.Bool.{Bool, true, false, not, cond}
use lib.IntN.{ℤ}
use lib.Dec.{T, eqb}
use lib.Ieee.{Float, nan, inf, fin, Format, up, down, round, mul, unlike, fits, is_nan, lt, neg}
use lib.Ieee.Fits.{neg-fits}
use Rattle.exact.specs.Rational.{ℚ, ◌*q◌, negq, q0, ◌≤q◌}
use Rattle.exact.proofs.Field.{qring, q-ring, ≤_trans, ≤-<-trans, <-≤-trans, lt→le, le-or-lt, not-both, up_left, down-left, up_right, down-right}
use Rattle.doubles.specs.Value.{val, Lower, Upper, Number, ◌⊑◌}
use Rattle.doubles.specs.Neighbour.{up_from, down_from}
use Rattle.doubles.proofs.TestFacts.{neg-neg}
use Rattle.doubles.proofs.Value.{val_plus, val-minus, val-above, val-below}
use Rattle.doubles.proofs.Neighbour.{neg-lt, neg-nan}
use Rattle.doubles.proofs.Enclose.{lower-neg, upper-neg, round-neg}
use Rattle.doubles.proofs.Sums.{mul-rounded, rounded-lower, down-low}
use Rattle.doubles.proofs.Extremes.{Four}

-- below minus infinity there is only that, and it sets no limit
low-only : (f : Format) (m : Float) (q : ℚ) → Number m → m ⊑ inf true → Lower (down_from f m) q
unfolding lt is_nan
low-only f nan q n h = absurd n
low-only f (inf true) q n h = down-low f q
low-only f (inf false) q n h = absurd h
low-only f (fin s k d) q n h = absurd h

-- a product with an infinity: a NaN, or minus infinity
at_low : (f : Format) (m : Float) (q : ℚ) (b : Bool) → Number m → Number (cond b nan (inf true)) → m ⊑ cond b nan (inf true) → Lower (down_from f m) q
unfolding is_nan
at_low f m q true n k h = absurd k
at_low f m q false n k h = low-only f m q n h

module _ (f : Format) (m : Float) (hm : T (fits f m)) (nm : Number m) where
  -- ---- a finite factor x against q in [c, d]
  finite-lower : (s : Bool) (k : ℕ) (e : ℤ) (c d : Float) (q p : ℚ) → Lower c q → Upper d q → Number (mul f (fin s k e) c) → Number (mul f (fin s k e) d)
      → m ⊑ mul f (fin s k e) c → m ⊑ mul f (fin s k e) d → val (fin s k e) *q q ≤q p → Lower (down_from f m) p
  unfolding mul
  finite-lower false k e nan d q p C D u v g h z = absurd C
  finite-lower false k e (inf true) d q p C D u v g h z = at_low f m p (eqb k 0) nm u g
  finite-lower false k e (inf false) d q p C D u v g h z = absurd C
  finite-lower false k e (fin t n w) d q p C D u v g h z = rounded-lower f (mul-rounded f false k e t n w) m hm nm g (≤_trans (up_right (val (fin false k e)) (val_plus k e) C) z)
  finite-lower true k e c nan q p C D u v g h z = absurd D
  finite-lower true k e c (inf true) q p C D u v g h z = absurd D
  finite-lower true k e c (inf false) q p C D u v g h z = at_low f m p (eqb k 0) nm v h
  finite-lower true k e c (fin t n w) q p C D u v g h z = rounded-lower f (mul-rounded f true k e t n w) m hm nm h (≤_trans (down-right (val (fin true k e)) (val-minus k e) D) z)

  -- ---- an infinite end meets the other interval's sign
  -- minus infinity times an upper end d of a q that is not negative
  low-times : (d : Float) (q p : ℚ) → q0 ≤q q → Upper d q → Number (mul f (inf true) d) → m ⊑ mul f (inf true) d → Lower (down_from f m) p
  unfolding mul
  low-times nan q p Z D u g = absurd D
  low-times (inf true) q p Z D u g = absurd D
  low-times (inf false) q p Z D u g = low-only f m p nm g
  low-times (fin false n e) q p Z D u g = at_low f m p (eqb n 0) nm u g
  low-times (fin true zero e) q p Z D u g = absurd (unfold is_nan in u)
  low-times (fin true (suc n) e) q p Z D u g = absurd (not-both (≤-<-trans D (val-below n e)) Z)

  -- plus infinity times a lower end c of a q that is not positive
  high-times : (c : Float) (q p : ℚ) → q ≤q q0 → Lower c q → Number (mul f (inf false) c) → m ⊑ mul f (inf false) c → Lower (down_from f m) p
  unfolding mul
  high-times nan q p Z C u g = absurd C
  high-times (inf true) q p Z C u g = low-only f m p nm g
  high-times (inf false) q p Z C u g = absurd C
  high-times (fin true n e) q p Z C u g = at_low f m p (eqb n 0) nm u g
  high-times (fin false zero e) q p Z C u g = absurd (unfold is_nan in u)
  high-times (fin false (suc n) e) q p Z C u g = absurd (not-both (<-≤-trans (val-above n e) C) Z)

-- ---- the lower end of a product
-- a property of the four products of the ends
abbrev pub Products : (Float → Type 0) → Format → Float → Float → Float → Float → Type 0
Products P f a b c d = Four P (mul f a c) (mul f a d) (mul f b c) (mul f b d)

module _ (f : Format) (m : Float) (hm : T (fits f m)) (nm : Number m) (p q : ℚ) where
  by-a : (a b c d : Float) → Products Number f a b c d → Products (λ x. m ⊑ x) f a b c d → Lower a p → Lower c q → Upper d q → q0 ≤q q → Lower (down_from f m) (p *q q)
  by-a nan b c d N E A C D Z = absurd A
  by-a (inf true) b c d N E A C D Z = low-times f m hm nm d q (p *q q) Z D N.two E.two
  by-a (inf false) b c d N E A C D Z = absurd A
  by-a (fin s k e) b c d N E A C D Z = finite-lower f m hm nm s k e c d q (p *q q) C D N.one N.two E.one E.two (up_left q Z A)

  by-b : (a b c d : Float) → Products Number f a b c d → Products (λ x. m ⊑ x) f a b c d → Upper b p → Lower c q → Upper d q → q ≤q q0 → Lower (down_from f m) (p *q q)
  by-b a nan c d N E B C D Z = absurd B
  by-b a (inf true) c d N E B C D Z = absurd B
  by-b a (inf false) c d N E B C D Z = high-times f m hm nm c q (p *q q) Z C N.three E.three
  by-b a (fin s k e) c d N E B C D Z = finite-lower f m hm nm s k e c d q (p *q q) C D N.three N.four E.three E.four (down-left q Z B)

  pub mul-lower : (a b c d : Float) → Products Number f a b c d → Products (λ x. m ⊑ x) f a b c d → Lower a p → Upper b p → Lower c q → Upper d q → Lower (down_from f m) (p *q q)
  mul-lower a b c d N E A B C D = elim (le-or-lt q0 q) [ inl Z ↦ by-a a b c d N E A C D Z | inr Z ↦ by-b a b c d N E B C D (lt→le Z) ]

-- ---- the mirror
unlike-not : (s t : Bool) → unlike (not s) t ≡ not (unlike s t)
unlike-not true true = refl
unlike-not true false = refl
unlike-not false true = refl
unlike-not false false = refl

with-inf : (s t b : Bool) → cond b nan (inf (unlike (not s) t)) ≡ neg (cond b nan (inf (unlike s t)))
unfolding neg
with-inf s t true = refl
with-inf s t false = ap inf (unlike-not s t)

pub mul-neg : (f : Format) (x y : Float) → mul f (neg x) y ≡ neg (mul f x y)
unfolding mul neg
mul-neg f nan y = refl
mul-neg f (inf s) nan = refl
mul-neg f (inf s) (inf t) = ap inf (unlike-not s t)
mul-neg f (inf s) (fin t n d) = with-inf s t (eqb n 0)
mul-neg f (fin s m e) nan = refl
mul-neg f (fin s m e) (inf t) = with-inf s t (eqb m 0)
mul-neg f (fin s m e) (fin t n d) = ap (λ (u : Bool). round f u (m * up e * (n * up d)) (down e * down d)) (unlike-not s t) ∙ round-neg f (unlike s t) (m * up e * (n * up d)) (down e * down d)

pub number-neg : (x : Float) → Number x → Number (neg x)
number-neg x h = subst (λ (b : Bool). T (not b)) (sym (neg-nan x)) h

flip-number : (f : Format) (x y : Float) → Number (mul f x y) → Number (mul f (neg x) y)
flip-number f x y h = subst Number (sym (mul-neg f x y)) (number-neg (mul f x y) h)

flip-le : (f : Format) (x y m : Float) → mul f x y ⊑ m → neg m ⊑ mul f (neg x) y
flip-le f x y m h = subst (λ (v : Float). neg m ⊑ v) (sym (mul-neg f x y)) (subst (λ (b : Bool). T (not b)) (sym (neg-lt (mul f x y) m)) h)

mirror : (p q : ℚ) → negq (negq p *q q) ≡ p *q q
mirror p q = q-ring (p ∷ q ∷ []) (search qring depth 20) tt

pub mul-upper : (f : Format) (m : Float) → T (fits f m) → Number m → (p q : ℚ) (a b c d : Float) → Products Number f a b c d → Products (λ x. x ⊑ m) f a b c d → Lower a p → Upper b p → Lower c q
    → Upper d q → Upper (up_from f m) (p *q q)
unfolding down_from
mul-upper f m hm nm p q a b c d N E A B C D =
    let l : Lower (neg (up_from f (neg (neg m)))) (negq p *q q) =
    mul-lower f (neg m) (neg-fits f m hm) (number-neg m nm) (negq p) q (neg b) (neg a) c d
    (record { one = flip-number f b c N.three; two = flip-number f b d N.four; three = flip-number f a c N.one; four = flip-number f a d N.two })
    (record { one = flip-le f b c m E.three; two = flip-le f b d m E.four; three = flip-le f a c m E.one; four = flip-le f a d m E.two })
    (lower-neg b p B) (upper-neg a p A) C D in
    subst (Upper (up_from f m)) (mirror p q)
    (subst (λ (v : Float). Upper v (negq (negq p *q q))) (neg-neg (up_from f (neg (neg m))) ∙ ap (up_from f) (neg-neg m)) (upper-neg (neg (up_from f (neg (neg m)))) (negq p *q q) l))
