-- Rounded sums and products rise with their operands: a rounding keeps the order. Assumes nothing.
use mathlib.Core.Path.{◌≡◌, refl, sym, ap, subst}
use mathlib.Core.Logic.{inl, inr}
use Prim.Native.Nat.{ℕ, suc, ◌+◌, ◌*◌, ◌≤◌, ◌<◌}
use native.Mathlib.Nat.{mul-pos, eq-zero-or-pos}
use native.Mathlib.Omega.{arith}
use mathlib.Core.Bool.{Bool, true, false, not, cond}
use lib.IntN.{ℤ}
use lib.Dec.{T, eqb-suc-zero, nltb→le}
use lib.Ieee.{Float, nan, inf, fin, Format, round, add, mul, is_nan, lt, neg, below}
use lib.Ieee.Order.{round_mono}
use Rattle.exact.specs.Rational.{ℚ, ◌≤q◌}
use Rattle.exact.proofs.Field.{≤_trans, ≤-eq, +-mono, up_right}
use Rattle.doubles.specs.Value.{val, Number, ◌⊑◌}
use Rattle.doubles.proofs.Value.{le-ratio, val-le, val_plus}
use Rattle.doubles.proofs.Order.{lt_irrefl, le_not}
use Rattle.doubles.proofs.Neighbour.{neg-lt}
use Rattle.doubles.proofs.Enclose.{Signed, round-signed, round-neg, zero-rounds}
use Rattle.doubles.proofs.Sums.{Rounded, add-rounded, mul-rounded, rounded-number}
use Rattle.doubles.proofs.Symmetric.{bottom}

-- ---- a rounding keeps the order of fractions
no : true ≡ false → ⊥
no e = subst T e tt

signs_apart : (x y : Float) → Signed true x → Signed false y → x ⊑ y
unfolding lt
signs_apart nan y h k = absurd h
signs_apart (inf false) y h k = absurd (no (sym h))
signs_apart (fin false m e) y h k = absurd (no (sym h))
signs_apart (inf true) nan h k = absurd k
signs_apart (inf true) (inf true) h k = absurd (no k)
signs_apart (inf true) (inf false) h k = tt
signs_apart (inf true) (fin t n d) h k = tt
signs_apart (fin true m e) nan h k = absurd k
signs_apart (fin true m e) (inf true) h k = absurd (no k)
signs_apart (fin true m e) (inf false) h k = tt
signs_apart (fin true m e) (fin true n d) h k = absurd (no k)
signs_apart (fin true m e) (fin false n d) h k = tt

none_left : (a b : ℕ) → 0 < b → a * b ≤ 0 → a ≡ 0
none_left a b h k = elim (eq-zero-or-pos a) [ inl z ↦ z | inr p ↦ absurd (go (a * b) (mul-pos p h) k) ]
  where
    go : (n : ℕ) → 0 < n → n ≤ 0 → ⊥
    go n p q = omega arith

zeros-level : (f : Format) (b d : ℕ) → 0 < b → 0 < d → round f false 0 b ⊑ round f true 0 d
unfolding lt neg
zeros-level f b d h k = rw (round-neg f true 0 b, zero-rounds f b h, zero-rounds f d k) tt

round-rising : (f : Format) (s : Bool) (a b : ℕ) (t : Bool) (c d : ℕ) → 0 < b → 0 < d → T (not (below t (c * b) s (a * d))) → round f s a b ⊑ round f t c d
round-rising f false a b false c d B D h = le_not (round f false a b) (round f false c d) (round_mono f a b c d B D (nltb→le (c * b) (a * d) h))
round-rising f true a b false c d B D h = signs_apart (round f true a b) (round f false c d) (round-signed f true a b) (round-signed f false c d)
round-rising f true a b true c d B D h =
    rw (round-neg f false a b, round-neg f false c d, neg-lt (round f false c d) (round f false a b))
    (le_not (round f false c d) (round f false a b) (round_mono f c d a b D B (nltb→le (a * d) (c * b) h)))
round-rising f false a b true c d B D h =
    let z = nltb→le 0 (c * b + a * d) h in
    rw (none_left a d D (omega arith), none_left c b B (omega arith)) (zeros-level f b d B D)

pub rounded-rising : (f : Format) {x y : Float} {p q : ℚ} → Rounded f x p → Rounded f y q → p ≤q q → x ⊑ y
rounded-rising f X Y h =
    rw (X.made, Y.made) (round-rising f X.sign X.num X.den Y.sign Y.num Y.den X.proper Y.proper
    (le-ratio Y.sign Y.num Y.den X.sign X.num X.den Y.proper X.proper (≤_trans (≤-eq X.worth) (≤_trans h (≤-eq (sym Y.worth))))))

-- ---- products with a positive factor
pub under_top : (x : Float) → x ⊑ inf false
unfolding lt
under_top nan = tt
under_top (inf true) = tt
under_top (inf false) = tt
under_top (fin s m e) = tt

-- m 2 ^ e above 0 times an infinity
times-inf : (f : Format) (m : ℕ) (e : ℤ) (t : Bool) → mul f (fin false (suc m) e) (inf t) ≡ inf t
unfolding mul
times-inf f m e true = ap (λ (b : Bool). cond b nan (inf true)) (eqb-suc-zero m)
times-inf f m e false = ap (λ (b : Bool). cond b nan (inf false)) (eqb-suc-zero m)

fins-level : (s : Bool) (m : ℕ) (e : ℤ) (t : Bool) (n : ℕ) (d : ℤ) → fin s m e ⊑ fin t n d → val (fin s m e) ≤q val (fin t n d)
fins-level s m e t n d h = val-le (fin t n d) (fin s m e) tt tt h

pub mul-rising : (f : Format) (m : ℕ) (e : ℤ) (c d : Float) → Number c → Number d → c ⊑ d → mul f (fin false (suc m) e) c ⊑ mul f (fin false (suc m) e) d
mul-rising f m e nan d N M h = absurd (unfold is_nan in N)
mul-rising f m e (inf true) d N M h = rw (times-inf f m e true) (bottom _)
mul-rising f m e (inf false) nan N M h = absurd (unfold is_nan in M)
mul-rising f m e (inf false) (inf true) N M h = absurd (unfold lt in h)
mul-rising f m e (inf false) (inf false) N M h = lt_irrefl _
mul-rising f m e (inf false) (fin t n d) N M h = absurd (unfold lt in h)
mul-rising f m e (fin s k g) nan N M h = absurd (unfold is_nan in M)
mul-rising f m e (fin s k g) (inf true) N M h = absurd (unfold lt in h)
mul-rising f m e (fin s k g) (inf false) N M h = rw (times-inf f m e false) (under_top _)
mul-rising f m e (fin s k g) (fin t n d) N M h =
    rounded-rising f (mul-rounded f false (suc m) e s k g) (mul-rounded f false (suc m) e t n d) (up_right (val (fin false (suc m) e)) (val_plus (suc m) e) (fins-level s k g t n d h))

-- what a positive factor gives is no NaN
pub mul-number : (f : Format) (m : ℕ) (e : ℤ) (c : Float) → Number c → Number (mul f (fin false (suc m) e) c)
mul-number f m e nan N = absurd (unfold is_nan in N)
mul-number f m e (inf t) N = rw (times-inf f m e t) (unfold is_nan in tt)
mul-number f m e (fin s k g) N = rounded-number f (mul-rounded f false (suc m) e s k g)

-- ---- sums of what is above minus infinity
abbrev pub Above : Float → Type 0
Above x = T (lt (inf true) x)

pub above-number : (x : Float) → Above x → Number x
unfolding lt is_nan
above-number nan h = h
above-number (inf s) h = tt
above-number (fin s m e) h = tt

pub sum_number : (f : Format) (x y : Float) → Above x → Above y → Number (add f x y)
unfolding lt add
sum_number f nan y h k = absurd h
sum_number f (inf true) y h k = absurd h
sum_number f (inf false) nan h k = absurd k
sum_number f (inf false) (inf true) h k = absurd k
sum_number f (inf false) (inf false) h k = unfold is_nan in tt
sum_number f (inf false) (fin t n d) h k = unfold is_nan in tt
sum_number f (fin s m e) nan h k = absurd k
sum_number f (fin s m e) (inf t) h k = unfold is_nan in tt
sum_number f (fin s m e) (fin t n d) h k = rounded-number f (add-rounded f s m e t n d)

-- x + y and z + w, where x is not above z and y not above w: no infinity is taken from another, since none of the first is plus infinity and none of the second minus infinity
abbrev pub Below : Float → Type 0
Below x = T (lt x (inf false))

sum_top : (f : Format) (y : Float) → Above y → add f (inf false) y ≡ inf false
unfolding add lt
sum_top f nan h = absurd h
sum_top f (inf true) h = absurd h
sum_top f (inf false) h = refl
sum_top f (fin s m e) h = refl

sum-bottom : (f : Format) (y : Float) → Below y → add f (inf true) y ≡ inf true
unfolding add lt
sum-bottom f nan h = absurd h
sum-bottom f (inf true) h = refl
sum-bottom f (inf false) h = absurd h
sum-bottom f (fin s m e) h = refl

fins-rising : (f : Format) (s : Bool) (m : ℕ) (e : ℤ) (t : Bool) (n : ℕ) (d : ℤ) (z w : Float) → Above z → Above w → fin s m e ⊑ z → fin t n d ⊑ w → add f (fin s m e) (fin t n d) ⊑ add f z w
fins-rising f s m e t n d nan w Z W h k = absurd (unfold lt in Z)
fins-rising f s m e t n d (inf true) w Z W h k = absurd (unfold lt in Z)
fins-rising f s m e t n d (inf false) w Z W h k = rw (sum_top f w W) (under_top _)
fins-rising f s m e t n d (fin a b c) nan Z W h k = absurd (unfold lt in W)
fins-rising f s m e t n d (fin a b c) (inf true) Z W h k = absurd (unfold lt in W)
fins-rising f s m e t n d (fin a b c) (inf false) Z W h k = unfold add in under_top _
fins-rising f s m e t n d (fin a b c) (fin u v g) Z W h k =
    rounded-rising f (add-rounded f s m e t n d) (add-rounded f a b c u v g) (+-mono (fins-level s m e a b c h) (fins-level t n d u v g k))

finite-rising : (f : Format) (s : Bool) (m : ℕ) (e : ℤ) (y z w : Float) → Below y → Above z → Above w → fin s m e ⊑ z → y ⊑ w → add f (fin s m e) y ⊑ add f z w
finite-rising f s m e nan z w Y Z W h k = absurd (unfold lt in Y)
finite-rising f s m e (inf true) z w Y Z W h k = unfold add in bottom _
finite-rising f s m e (inf false) z w Y Z W h k = absurd (unfold lt in Y)
finite-rising f s m e (fin t n d) z w Y Z W h k = fins-rising f s m e t n d z w Z W h k

pub sum-rising : (f : Format) (x y z w : Float) → Below x → Below y → Above z → Above w → x ⊑ z → y ⊑ w → add f x y ⊑ add f z w
sum-rising f nan y z w X Y Z W h k = absurd (unfold lt in X)
sum-rising f (inf true) y z w X Y Z W h k = rw (sum-bottom f y Y) (bottom _)
sum-rising f (inf false) y z w X Y Z W h k = absurd (unfold lt in X)
sum-rising f (fin s m e) y z w X Y Z W h k = finite-rising f s m e y z w Y Z W h k
