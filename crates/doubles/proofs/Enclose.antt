-- Rounding to nearest and then a step outward encloses the exact value: said once, for `round`, of any m that is not below (above) the rounded value. Assumes nothing.
use mathlib.Core.Path.{◌≡◌, refl, sym, ap, ◌∙◌, subst}
use mathlib.Core.Logic.{inl, inr}
use Prim.Native.Nat.{ℕ, zero, suc, ◌+◌, ◌*◌, ◌^◌, ◌≤◌, ◌<◌}
use native.Mathlib.Nat.{zero-lt-suc, mul-pos, eq-zero-or-pos}
use native.Mathlib.Omega.{arith}
use mathlib.Core.Bool.{Bool, true, false, not, cond, true≢false}
use lib.IntN.{ℤ, pos}
use lib.Dec.{T, T_not, not_T, ltb, ltb→lt, nltb→le}
use lib.Ieee.{Float, nan, inf, fin, Format, prec, emax, low, up, down, odd, units, round, fits, is_nan, lt, le, neg}
use lib.Ieee.Fits.{down_pos, round-fits, round_is, neg-fits}
use lib.Ieee.Order.{round_mono}
use lib.Ieee.Scale.{round_same}
use Rattle.exact.specs.Rational.{ℚ, negq, ◌≤q◌}
use Rattle.exact.proofs.Field.{≤_trans, le-or-lt, lt→le, neg-le}
use Rattle.doubles.specs.Value.{ratio, val, Lower, Upper, Number, ◌⊑◌}
use Rattle.doubles.specs.Neighbour.{up_from, down_from}
use Rattle.doubles.proofs.TestFacts.{yes_or_no}
use Rattle.doubles.proofs.Value.{le-ratio, ratio-neg, val_is, val-neg}
use Rattle.doubles.proofs.Order.{lt-⊑, lt_irrefl, le_not}
use Rattle.doubles.proofs.Place.{up-number}
use Rattle.doubles.proofs.Neighbour.{up_fits, up_above, neg-lt, neg-nan}
use Rattle.doubles.proofs.Own.{own}

-- ---- ends go with the order, and mirror each other
pub lower-le : (x : Float) {p q : ℚ} → Lower x p → p ≤q q → Lower x q
lower-le nan h k = h
lower-le (inf true) h k = tt
lower-le (inf false) h k = h
lower-le (fin s m e) h k = ≤_trans h k

pub upper-le : (x : Float) {p q : ℚ} → Upper x q → p ≤q q → Upper x p
upper-le nan h k = h
upper-le (inf true) h k = h
upper-le (inf false) h k = tt
upper-le (fin s m e) h k = ≤_trans k h

pub lower-neg : (x : Float) (q : ℚ) → Upper x q → Lower (neg x) (negq q)
unfolding neg
lower-neg nan q h = h
lower-neg (inf true) q h = h
lower-neg (inf false) q h = tt
lower-neg (fin s m e) q h = subst (λ z. z ≤q negq q) (sym (val-neg s m e)) (neg-le h)

pub upper-neg : (x : Float) (q : ℚ) → Lower x q → Upper (neg x) (negq q)
unfolding neg
upper-neg nan q h = h
upper-neg (inf true) q h = tt
upper-neg (inf false) q h = h
upper-neg (fin s m e) q h = subst (λ z. negq q ≤q z) (sym (val-neg s m e)) (neg-le h)

-- ---- the sign goes through `round`
odd-neg : (d : ℕ) (s : Bool) (q k l : ℕ) → odd d (not s) q k l ≡ neg (odd d s q k l)
unfolding odd neg
odd-neg d s zero k l = refl
odd-neg d s (suc q) k l = refl

units-neg : (f : Format) (s : Bool) (q k : ℕ) → units f (not s) q k ≡ neg (units f s q k)
unfolding units
units-neg f s q k = go (ltb (q * 2 ^ k) (2 ^ (low f + suc (emax f))))
  where
    top : neg (inf s) ≡ inf (not s)
    top = unfold neg in refl

    go : (b : Bool) → cond b (odd (suc (prec f)) (not s) q k (low f)) (inf (not s)) ≡ neg (cond b (odd (suc (prec f)) s q k (low f)) (inf s))
    go true = odd-neg (suc (prec f)) s q k (low f)
    go false = sym top

pub round-neg : (f : Format) (s : Bool) (a b : ℕ) → round f (not s) a b ≡ neg (round f s a b)
round-neg f s a b = round_is f (not s) a b ∙ units-neg f s _ _ ∙ ap neg (sym (round_is f s a b))

-- what is rounded is a number of the sign s
abbrev pub Signed : Bool → Float → Type 0
Signed s nan = ⊥
Signed s (inf t) = t ≡ s
Signed s (fin t m e) = t ≡ s

odd-signed : (d : ℕ) (s : Bool) (q k l : ℕ) → Signed s (odd d s q k l)
unfolding odd
odd-signed d s zero k l = refl
odd-signed d s (suc q) k l = refl

units-signed : (f : Format) (s : Bool) (q k : ℕ) → Signed s (units f s q k)
unfolding units
units-signed f s q k = go (ltb (q * 2 ^ k) (2 ^ (low f + suc (emax f)))) (odd (suc (prec f)) s q k (low f)) (odd-signed (suc (prec f)) s q k (low f))
  where
    go : (b : Bool) (v : Float) → Signed s v → Signed s (cond b v (inf s))
    go true v h = h
    go false v h = refl

pub round-signed : (f : Format) (s : Bool) (a b : ℕ) → Signed s (round f s a b)
round-signed f s a b = subst (Signed s) (sym (round_is f s a b)) (units-signed f s _ _)

pub round_number : (f : Format) (s : Bool) (a b : ℕ) → T (not (is_nan (round f s a b)))
round_number f s a b = go (round f s a b) (round-signed f s a b)
  where
    go : (v : Float) → Signed s v → T (not (is_nan v))
    go nan h = absurd h
    go (inf t) h = unfold is_nan in tt
    go (fin t m e) h = unfold is_nan in tt

-- ---- `round` keeps the order with what the format holds: y ≤ the fraction makes y ≤ its rounding
pos-not-below : (v : Float) (n : ℕ) (d : ℤ) → Signed false v → T (not (lt v (fin true n d)))
unfolding lt
pos-not-below nan n d h = absurd h
pos-not-below (inf true) n d h = absurd (true≢false h)
pos-not-below (inf false) n d h = tt
pos-not-below (fin true m e) n d h = absurd (true≢false h)
pos-not-below (fin false m e) n d h = tt

no_part : (x y d e : ℕ) → 0 < d → x * d + y ≤ 0 → x ≡ 0
no_part x y d e D h = elim (eq-zero-or-pos x) [ inl z ↦ z | inr p ↦ absurd (go (x * d) y (mul-pos p D) h) ]
  where
    go : (x y : ℕ) → 0 < x → x + y ≤ 0 → ⊥
    go x y p h = omega arith

pub zero-rounds : (f : Format) (D : ℕ) → 0 < D → round f true 0 D ≡ fin true 0 (pos 0)
zero-rounds f D C = round_same f true 0 D (0 * 1) 1 C (zero-lt-suc 0) (go D) ∙ own f true 0 (pos 0) (unfold fits in tt)
  where
    go : (D : ℕ) → 0 * 1 ≡ 0 * 1 * D
    go D = omega arith

minus-zero-not : (n : ℕ) (d : ℤ) → n * up d ≡ 0 → T (not (lt (fin true 0 (pos 0)) (fin false n d)))
unfolding lt
minus-zero-not n d z = not_T (ltb 0 (0 * 1 * down d + n * up d * 1)) (λ t. go (down d) (n * up d) z (ltb→lt 0 (0 * 1 * down d + n * up d * 1) t))
  where
    go : (a b : ℕ) → b ≡ 0 → 0 < 0 * 1 * a + b * 1 → ⊥
    go a b z h = omega arith

pub above-rounds : (f : Format) (t : Bool) (n : ℕ) (d : ℤ) (s : Bool) (num den : ℕ) → 0 < den → T (fits f (fin t n d)) → val (fin t n d) ≤q ratio s num den → fin t n d ⊑ round f s num den
unfolding neg
above-rounds f t n d s num den D h k = go t s h (le-ratio s num den t (n * up d) (down d) D (down_pos d) (subst (λ z. z ≤q ratio s num den) (val_is t n d) k))
  where
    swapped : (a b : ℕ) → a + b ≤ 0 → b + a ≤ 0
    swapped a b h = omega arith

    go : (t s : Bool) → T (fits f (fin t n d)) → T (not (lib.Ieee.below s (num * down d) t (n * up d * den))) → fin t n d ⊑ round f s num den
    go false false h k =
        le_not (fin false n d) (round f false num den)
        (subst (λ (v : Float). T (le v (round f false num den))) (own f false n d h) (round_mono f (n * up d) (down d) num den (down_pos d) D (nltb→le (num * down d) (n * up d * den) k)))
    go true false h k = pos-not-below (round f false num den) n d (round-signed f false num den)
    go false true h k =
        let z = nltb→le 0 (num * down d + n * up d * den) k in
        subst (λ (z : ℕ). fin false n d ⊑ round f true z den) (sym (no_part num (n * up d * den) (down d) 0 (down_pos d) z))
        (subst (λ (v : Float). fin false n d ⊑ v) (sym (zero-rounds f den D)) (minus-zero-not n d (no_part (n * up d) (num * down d) den 0 D (swapped (num * down d) (n * up d * den) z))))
    go true true h k =
        let r = round f false num den in
        let x : r ⊑ fin false n d =
        le_not
        r (fin false n d)
        (subst (λ (v : Float). T (le r v)) (own f false n d (neg-fits f (fin true n d) h)) (round_mono f num den (n * up d) (down d) D (down_pos d) (nltb→le (n * up d * den) (num * down d) k))) in
        subst (λ (v : Float). fin true n d ⊑ v) (sym (round-neg f false num den)) (subst (λ (b : Bool). T (not b)) (sym (neg-lt r (fin false n d))) x)

-- ---- THE LEMMA. What is no smaller than the rounded fraction is, one step up, no smaller than the fraction; and the mirror of it.
no_less : (m : Float) → T (lt m (inf true)) → ⊥
unfolding lt
no_less nan h = h
no_less (inf true) h = h
no_less (inf false) h = h
no_less (fin s n d) h = h

at_top : (f : Format) (m : Float) (q : ℚ) → Number m → inf false ⊑ m → Upper (up_from f m) q
unfolding up_from lt is_nan
at_top f nan q n h = absurd n
at_top f (inf true) q n h = absurd h
at_top f (inf false) q n h = tt
at_top f (fin s zero d) q n h = absurd h
at_top f (fin true (suc m) d) q n h = absurd h
at_top f (fin false (suc m) d) q n h = absurd h

above-all : (f : Format) (y m : Float) (s : Bool) (num den : ℕ) → 0 < den → T (fits f y) → Number y → T (lt m y) → round f s num den ⊑ m → Upper y (ratio s num den)
unfolding is_nan
above-all f nan m s num den D h n l g = absurd n
above-all f (inf true) m s num den D h n l g = absurd (no_less m l)
above-all f (inf false) m s num den D h n l g = tt
above-all f (fin t n d) m s num den D h _ l g =
    elim (le-or-lt (ratio s num den) (val (fin t n d))) [
      | inl a ↦ a
      | inr b ↦ absurd (T_not (lt m (round f s num den)) g (lt-⊑ m (fin t n d) (round f s num den) (round_number f s num den) l (above-rounds f t n d s num den D h (lt→le b))))
    ]

pub round-upper : (f : Format) (m : Float) (s : Bool) (num den : ℕ) → 0 < den → T (fits f m) → Number m → round f s num den ⊑ m → Upper (up_from f m) (ratio s num den)
round-upper f m s num den D h n g =
    elim (yes_or_no (lt m (inf false))) [
      | inl l ↦ above-all f (up_from f m) m s num den D (up_fits f m h) (up-number f m h l) (up_above f m h l) g
      | inr t ↦ at_top f m (ratio s num den) n t
    ]

pub round-lower : (f : Format) (m : Float) (s : Bool) (num den : ℕ) → 0 < den → T (fits f m) → Number m → m ⊑ round f s num den → Lower (down_from f m) (ratio s num den)
unfolding down_from
round-lower f m s num den D h n g =
    subst (Lower (neg (up_from f (neg m)))) (ratio-neg s num den)
    (lower-neg (up_from f (neg m)) (ratio (not s) num den)
    (round-upper f (neg m) (not s) num den D (neg-fits f m h) (subst (λ (b : Bool). T (not b)) (sym (neg-nan m)) n)
    (subst (λ (v : Float). v ⊑ neg m) (sym (round-neg f s num den)) (subst (λ (b : Bool). T (not b)) (sym (neg-lt m (round f s num den))) g))))

-- at the rounding itself
pub round-encloses : (f : Format) (s : Bool) (num den : ℕ) → 0 < den → Lower (down_from f (round f s num den)) (ratio s num den) × Upper (up_from f (round f s num den)) (ratio s num den)
round-encloses f s num den D =
    let r = round f s num den in
    (round-lower f r s num den D (round-fits f s num den) (round_number f s num den) (lt_irrefl r), round-upper f r s num den D (round-fits f s num den) (round_number f s num den) (lt_irrefl r))
