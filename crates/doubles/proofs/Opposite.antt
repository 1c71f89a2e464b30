-- Products of one double with two that are opposite as numbers are opposite as numbers: a rounding does not see the sign. A product's operands may be exchanged. Assumes nothing.
use mathlib.Core.Path.{◌≡◌, refl, sym, ap, ◌∙◌, subst}
use mathlib.Core.Logic.{inl, inr}
use Prim.Native.Nat.{ℕ, zero, suc, ◌+◌, ◌-◌, ◌*◌, ◌<◌}
use native.Mathlib.Nat.{mul_comm, mul-mul-mul_comm, mul-pos, zero-lt-suc, zero-mul}
use native.Mathlib.Omega.{arith}
use mathlib.Core.Bool.{Bool, true, false, not, ◌&&◌, ◌||◌, beq, cond}
use lib.IntN.{ℤ, pos}
use lib.Dec.{T, ltb, eqb, eqb→eq, eqb-suc-zero}
use lib.Ieee.{Float, nan, inf, fin, Format, up, down, round, sum, add, mul, unlike, fits, is_nan, lt, eq, neg}
use lib.Ieee.Fits.{up_pos, down_pos, and_l, and_r}
use lib.Ieee.Scale.{round_same}
use Rattle.doubles.specs.Value.{◌⊑◌}
use Rattle.doubles.proofs.TestFacts.{or_split}
use Rattle.doubles.proofs.Order.{lt_irrefl}
use Rattle.doubles.proofs.Neighbour.{neg-nan}
use Rattle.doubles.proofs.Own.{own}
use Rattle.doubles.proofs.Products.{mul-neg}
use Rattle.doubles.proofs.Enclose.{round-neg}
use borrow.Author.Tests.{ltb-false}

-- opposite numbers, or two NaN
pub record Opposed (x y : Float) : Type 0 where
  pub nans : is_nan x ≡ is_nan y
  pub under : x ⊑ neg y
  pub over : neg y ⊑ x

pub opposed-neg : (x y : Float) → x ≡ neg y → Opposed x y
opposed-neg x y e = subst (λ (z : Float). Opposed z y) (sym e) (record { nans = neg-nan y; under = lt_irrefl (neg y); over = lt_irrefl (neg y) })

-- ---- sizes
pub size-pos : (m : ℕ) (e d : ℤ) → 0 < suc m * up e * down d
size-pos m e d = mul-pos (mul-pos (zero-lt-suc m) (up_pos e)) (down_pos d)

pub no_size : (u v a : ℕ) → 0 < a → 0 * u * v ≡ a → ⊥
no_size u v a h e = omega arith

pub no_zero : (a : ℕ) → 0 < a → a ≡ 0 → ⊥
no_zero a h e = omega arith

no_part : (m : ℕ) (e d : ℤ) → m * up e * down d ≡ 0 → m ≡ 0
no_part zero e d h = refl
no_part (suc m) e d h = absurd (no_zero (suc m * up e * down d) (size-pos m e d) h)

both_zero : (m : ℕ) (e : ℤ) (n : ℕ) (d : ℤ) → m * up e * down d ≡ n * up d * down e → eqb m 0 ≡ eqb n 0
both_zero zero e zero d h = refl
both_zero zero e (suc n) d h = absurd (no_size (up e) (down d) (suc n * up d * down e) (size-pos n d e) h)
both_zero (suc m) e zero d h = absurd (no_size (up d) (down e) (suc m * up e * down d) (size-pos m e d) (sym h))
both_zero (suc m) e (suc n) d h = eqb-suc-zero m ∙ sym (eqb-suc-zero n)

-- ---- products of equal numbers
same-product : (f : Format) (s : Bool) (m : ℕ) (e : ℤ) (n : ℕ) (d : ℤ) → m * up e * down d ≡ n * up d * down e → (c : Float) → mul f (fin s m e) c ≡ mul f (fin s n d) c
unfolding mul
same-product f s m e n d h nan = refl
same-product f s m e n d h (inf u) = ap (λ (b : Bool). cond b nan (inf (unlike s u))) (both_zero m e n d h)
same-product f s m e n d h (fin u k g) =
    round_same f (unlike s u) (m * up e * (k * up g)) (down e * down g) (n * up d * (k * up g)) (down d * down g) (mul-pos (down_pos e) (down_pos g)) (mul-pos (down_pos d) (down_pos g))
    (mul-mul-mul_comm (m * up e) (k * up g) (down d) (down g) ∙ ap (λ (z : ℕ). z * (k * up g * down g)) h ∙ mul-mul-mul_comm (n * up d) (down e) (k * up g) (down g))

-- ---- products with a zero
round-zero : (f : Format) (s : Bool) (num den : ℕ) → num ≡ 0 → 0 < den → round f s num den ≡ fin s 0 (pos 0)
round-zero f s num den z h = round_same f s num den 0 1 h (zero-lt-suc 0) (ap (λ (a : ℕ). a * 1) z ∙ sym (zero-mul den)) ∙ own f s 0 (pos 0) (unfold fits in tt)

zeros-opposed : (s t : Bool) → Opposed (fin s 0 (pos 0)) (fin t 0 (pos 0))
unfolding is_nan lt neg
zeros-opposed true true = record { nans = refl; under = tt; over = tt }
zeros-opposed true false = record { nans = refl; under = tt; over = tt }
zeros-opposed false true = record { nans = refl; under = tt; over = tt }
zeros-opposed false false = record { nans = refl; under = tt; over = tt }

nans-opposed : Opposed nan nan
unfolding is_nan lt neg
nans-opposed = record { nans = refl; under = tt; over = tt }

nothing : (u k : ℕ) → 0 * u * k ≡ 0
nothing u k = ap (λ (z : ℕ). z * k) (zero-mul u) ∙ zero-mul k

zero-products : (f : Format) (s : Bool) (e : ℤ) (t : Bool) (d : ℤ) (c : Float) → Opposed (mul f (fin s 0 e) c) (mul f (fin t 0 d) c)
unfolding mul
zero-products f s e t d nan = nans-opposed
zero-products f s e t d (inf u) = nans-opposed
zero-products f s e t d (fin u k g) =
    rw (
      round-zero f (unlike s u) (0 * up e * (k * up g)) (down e * down g) (nothing (up e) (k * up g)) (mul-pos (down_pos e) (down_pos g)),
      round-zero f (unlike t u) (0 * up d * (k * up g)) (down d * down g) (nothing (up d) (k * up g)) (mul-pos (down_pos d) (down_pos g)),
    )
    (zeros-opposed (unlike s u) (unlike t u))

-- ---- products with opposite numbers
beq_same : (s t : Bool) → T (beq s t) → s ≡ t
beq_same true true h = refl
beq_same true false h = absurd h
beq_same false true h = absurd h
beq_same false false h = refl

pub mul-opposed : (f : Format) (x y c : Float) → T (eq x (neg y)) → Opposed (mul f x c) (mul f y c)
unfolding eq neg
mul-opposed f nan y c h = absurd h
mul-opposed f (inf s) nan c h = absurd h
mul-opposed f (inf s) (inf t) c h = opposed-neg _ _ (ap (λ (b : Bool). mul f (inf b) c) (beq_same s (not t) h) ∙ mul-neg f (inf t) c)
mul-opposed f (inf s) (fin t n d) c h = absurd h
mul-opposed f (fin s m e) nan c h = absurd h
mul-opposed f (fin s m e) (inf t) c h = absurd h
mul-opposed f (fin s m e) (fin t n d) c h =
    let a = m * up e * down d in
    let b = n * up d * down e in
    let same : a ≡ b = eqb→eq a b (and_l (eqb a b) (beq s (not t) || eqb a 0) h) in
    elim (or_split (beq s (not t)) (eqb a 0) (and_r (eqb a b) (beq s (not t) || eqb a 0) h)) [
      | inl k ↦ opposed-neg _ _ (ap (λ (u : Bool). mul f (fin u m e) c) (beq_same s (not t) k) ∙ same-product f (not t) m e n d same c ∙ mul-neg f (fin t n d) c)
      | inr k ↦
          let z = eqb→eq a 0 k in
          rw (no_part m e d z, no_part n d e (sym same ∙ z)) (zero-products f s e t d c)
    ]

-- ---- sums of opposite numbers
both-not : (s t : Bool) → beq (not s) (not t) ≡ beq s t
both-not true true = refl
both-not true false = refl
both-not false true = refl
both-not false false = refl

-- equal sizes with unlike signs: both sums are +0
rest-opposed : (f : Format) (s : Bool) (a b c : ℕ) → 0 < c → ltb a b ≡ false → (l : Bool) → ltb b a ≡ l → Opposed (round f (not s && l) (a - b) c) (round f (s && l) (a - b) c)
rest-opposed f true a b c h e true k = opposed-neg _ _ (round-neg f true (a - b) c)
rest-opposed f false a b c h e true k = opposed-neg _ _ (round-neg f false (a - b) c)
rest-opposed f s a b c h e false k =
    let m = ltb-false a b e in
    let n = ltb-false b a k in
    let z : a - b ≡ 0 = omega arith in
    rw (round-zero f (not s && false) (a - b) c z h, round-zero f (s && false) (a - b) c z h) (zeros-opposed (not s && false) (s && false))

sum-opposed : (f : Format) (s : Bool) (a : ℕ) (t : Bool) (b c : ℕ) → 0 < c → Opposed (sum f (not s) a (not t) b c) (sum f s a t b c)
unfolding sum
sum-opposed f s a t b c h = rw (both-not s t) (go (beq s t) (ltb a b) refl)
  where
    go : (k l : Bool) → ltb a b ≡ l
        → Opposed (cond k (round f (not s) (a + b) c) (cond l (round f (not t) (b - a) c) (round f (not s && ltb b a) (a - b) c)))
        (cond k (round f s (a + b) c) (cond l (round f t (b - a) c) (round f (s && ltb b a) (a - b) c)))
    go true l e = opposed-neg _ _ (round-neg f s (a + b) c)
    go false true e = opposed-neg _ _ (round-neg f t (b - a) c)
    go false false e = rest-opposed f s a b c h e (ltb b a) refl

infs-opposed : (s t b : Bool) → Opposed (cond b (inf (not s)) nan) (cond b (inf s) nan)
infs-opposed s t true = opposed-neg _ _ (unfold neg in refl)
infs-opposed s t false = nans-opposed

pub add-opposed : (f : Format) (x y : Float) → Opposed (add f (neg x) (neg y)) (add f x y)
unfolding add neg
add-opposed f nan y = nans-opposed
add-opposed f (inf s) nan = nans-opposed
add-opposed f (inf s) (inf t) = rw (both-not s t) (infs-opposed s t (beq s t))
add-opposed f (inf s) (fin t n d) = opposed-neg _ _ refl
add-opposed f (fin s m e) nan = nans-opposed
add-opposed f (fin s m e) (inf t) = opposed-neg _ _ refl
add-opposed f (fin s m e) (fin t n d) = sum-opposed f s (m * up e * down d) t (n * up d * down e) (down e * down d) (mul-pos (down_pos e) (down_pos d))

-- ---- the operands exchanged
unlike-comm : (s t : Bool) → unlike s t ≡ unlike t s
unlike-comm true true = refl
unlike-comm true false = refl
unlike-comm false true = refl
unlike-comm false false = refl

pub mul-swap : (f : Format) (x y : Float) → mul f x y ≡ mul f y x
unfolding mul
mul-swap f nan nan = refl
mul-swap f nan (inf t) = refl
mul-swap f nan (fin t n d) = refl
mul-swap f (inf s) nan = refl
mul-swap f (inf s) (inf t) = ap inf (unlike-comm s t)
mul-swap f (inf s) (fin t n d) = ap (λ (u : Bool). cond (eqb n 0) nan (inf u)) (unlike-comm s t)
mul-swap f (fin s m e) nan = refl
mul-swap f (fin s m e) (inf t) = ap (λ (u : Bool). cond (eqb m 0) nan (inf u)) (unlike-comm s t)
mul-swap f (fin s m e) (fin t n d) = rw (unlike-comm s t, mul_comm (m * up e) (n * up d), mul_comm (down e) (down d))
