-- Worked numbers, by computation: table A has degree 2, knots 0 0 0 1 2 2 2 and x = 0 2 4 6. Assumes nothing.
use mathlib.Core.Path.{◌≡◌, refl}
use mathlib.Core.List.{[], ◌∷◌}
use Prim.Native.Nat.{ℕ, zero, suc, ◌<◌}
use native.Mathlib.Omega.{arith}
use lib.IntN.{pos, negsuc}
use lib.ListN.{get_or}
use Rattle.exact.specs.Rational.{ℚ, frac, q1, ◌≤q◌, ofℕ}
use Rattle.exact.specs.Spline.{basis, Knots, exact, dbasis, dexact}
use Rattle.exact.specs.Second.{ddbasis}
use Rattle.exact.specs.Boehm.{refined, inserted, inserted_point, cut}
use Rattle.exact.specs.Bernstein.{ends, raised, raised_to}
use Rattle.exact.proofs.Field.{same, by-same, dec-le, dec-lt}
use Rattle.exact.proofs.DeBoor.{curve, deboor, mono-of-steps, deboor-is}
use Rattle.exact.proofs.Source.{work, alpha}

q : ℕ → ℚ
unfolding frac
q n = frac (pos n) 0

half : ℚ
half = frac (pos 1) 1

A : ℕ → ℚ
unfolding q
A i = q (get_or (0 ∷ 0 ∷ 0 ∷ 1 ∷ 2 ∷ 2 ∷ 2 ∷ []) i 0)

x : ℕ → ℚ
unfolding q
x i = q (get_or (0 ∷ 2 ∷ 4 ∷ 6 ∷ []) i 0)

basis-a-0 : basis A half 2 2 0 ≡ frac (pos 1) 3
unfolding same basis A half
basis-a-0 = by-same tt

basis-a-1 : basis A half 2 2 1 ≡ frac (pos 5) 7
unfolding same basis A half
basis-a-1 = by-same tt

basis-a-2 : basis A half 2 2 2 ≡ frac (pos 1) 7
unfolding same basis A half
basis-a-2 = by-same tt

deboor-a : deboor A half 2 0 x ≡ frac (pos 7) 3
unfolding same deboor A half x
deboor-a = by-same tt

-- the source's loop gives the same
work-a : work A half 2 2 x 2 2 ≡ frac (pos 7) 3
unfolding same work alpha A half x
work-a = by-same tt

-- the first derivatives of the basis
dbasis-a-0 : dbasis A half 2 2 0 ≡ frac (negsuc 0) 0
unfolding same dbasis A half
dbasis-a-0 = by-same tt

dbasis-a-1 : dbasis A half 2 2 1 ≡ half
unfolding same dbasis A half
dbasis-a-1 = by-same tt

dbasis-a-2 : dbasis A half 2 2 2 ≡ half
unfolding same dbasis A half
dbasis-a-2 = by-same tt

-- the second ones
ddbasis-a-0 : ddbasis A half 2 2 0 ≡ frac (pos 2) 0
unfolding same ddbasis ofℕ A half
ddbasis-a-0 = by-same tt

ddbasis-a-1 : ddbasis A half 2 2 1 ≡ frac (negsuc 2) 0
unfolding same ddbasis ofℕ A half
ddbasis-a-1 = by-same tt

ddbasis-a-2 : ddbasis A half 2 2 2 ≡ q1
unfolding same ddbasis ofℕ A half
ddbasis-a-2 = by-same tt

-- the exact point and derivative, with all the weights 1
exact-a : exact A half 2 2 4 (λ i. q1) x ≡ frac (pos 7) 3
unfolding same exact A half x
exact-a = by-same tt

dexact-a : dexact A half 2 2 4 (λ i. q1) x ≡ frac (pos 3) 0
unfolding same dexact A half x
dexact-a = by-same tt

-- the knots of A satisfy what the theorems ask
step-a : (i : ℕ) → suc i < 7 → A i ≤q A (suc i)
unfolding same A
step-a zero h = dec-le tt
step-a (suc zero) h = dec-le tt
step-a (suc (suc zero)) h = dec-le tt
step-a (suc (suc (suc zero))) h = dec-le tt
step-a (suc (suc (suc (suc zero)))) h = dec-le tt
step-a (suc (suc (suc (suc (suc zero))))) h = dec-le tt
step-a (suc (suc (suc (suc (suc (suc i)))))) h = absurd (omega arith)

knots-a : Knots A 7 2
unfolding same A
knots-a = record { mono = mono-of-steps A 7 step-a; gap = dec-lt tt }

instance-a : deboor A half 2 0 x ≡ curve A half 2 2 0 x
instance-a = deboor-is knots-a half 2 0 x refl (omega arith)

-- ---- the knot 1/2 inserted after place 2: x = 0 1 5/2 4 6 on the knots 0 0 0 1/2 1 2 2 2

inserted-a-1 : inserted A half 2 2 x 1 ≡ q1
unfolding same inserted A half x
inserted-a-1 = by-same tt

inserted-a-2 : inserted A half 2 2 x 2 ≡ frac (pos 5) 1
unfolding same inserted A half x
inserted-a-2 = by-same tt

inserted-a-3 : inserted A half 2 2 x 3 ≡ q 4
unfolding same inserted A half x
inserted-a-3 = by-same tt

-- the point at 1/2, on the span that the new knot begins
refined-a : exact (refined A half 2) half 3 2 5 (inserted A half 2 2 (λ i. q1)) (inserted_point A half 2 2 (λ i. q1) x) ≡ frac (pos 7) 3
unfolding same exact refined inserted_point A half x
refined-a = by-same tt

-- ---- the line 0 0 1 1 with x = 0 2, raised to degree 2 is x = 0 1 2, and to degree 3 it is x = 0 2/3 4/3 2

line : ℕ → ℚ
unfolding q
line i = q (get_or (0 ∷ 2 ∷ []) i 0)

raised-line-0 : raised 1 line 0 ≡ q 0
unfolding same raised line
raised-line-0 = by-same tt

raised-line-1 : raised 1 line 1 ≡ q 1
unfolding same raised line
raised-line-1 = by-same tt

raised-line-2 : raised 1 line 2 ≡ q 2
unfolding same raised line
raised-line-2 = by-same tt

raised-line-1-of-3 : raised_to 1 2 line 1 ≡ frac (pos 2) 2
unfolding same raised_to line
raised-line-1-of-3 = by-same tt

-- the point at 1/2 of the raised line
raised-line : exact (ends (q 0) (q 1) 2) half 2 2 3 (λ i. q1) (raised 1 line) ≡ q 1
unfolding same exact ends raised half line
raised-line = by-same tt

-- ---- A without its first control: the knots 0 0 1 2 2 2 and x = 2 4 6, at 3/2

cut-a : exact (cut 1 A) (frac (pos 3) 1) 2 2 3 (λ i. q1) (cut 1 x) ≡ frac (pos 17) 3
unfolding same exact A x
cut-a = by-same tt
