-- A value that the format holds is its own rounding, and a value is determined by its sign and size. Assumes nothing.
use mathlib.Core.Path.{◌≡◌, refl, sym, ap, ◌∙◌, subst}
use mathlib.Core.Logic.{◌⊎◌, inl, inr}
use Prim.Native.Nat.{ℕ, zero, suc, ◌+◌, ◌-◌, ◌*◌, ◌/◌, ◌%◌, ◌^◌, ◌≤◌, ◌<◌}
use native.Mathlib.Nat.{le_of_eq, lt_of_lt_of_le, lt_irrefl, mul-one, mul_right_comm, mod-lt, eq_of_mul-eq-mul_right}
use native.Mathlib.Nat.{add-zero, sub-le, pow-succ'}
use native.Mathlib.Omega.{arith}
use mathlib.Core.Bool.{Bool, cond}
use lib.IntN.{ℤ}
use lib.Dec.{T, ltb, ltb→lt, nltb→le}
use lib.Pow.{pow-add, pow_mono}
use lib.Ieee.{Float, nan, inf, fin, Format, prec, emax, low, up, down, hid, ones, fits, round, of_bits, to_bits}
use lib.Ieee.Fits.{two, down_pos, round-fits}
use lib.Ieee.Bits.{of_bits-to_bits}
use lib.Ieee.Exact.{HasValue, round_exact}
use Rattle.doubles.proofs.TestFacts.{yes_or_no}
use Rattle.doubles.proofs.Pattern.{field, ticks, ticks-at, ticks-lt, hid-pos}
use Rattle.doubles.specs.Place.{inf_pat, mag}
use Rattle.doubles.proofs.Place.{mag-lt, units_of, to_bits-split}

-- ---- at the infinity's pattern `ticks` is the overflow threshold
exponent : (p e : ℕ) → 2 ≤ p → p - 1 + 2 * e ≡ e + p - 2 + suc e
exponent p e h = omega arith

one_up : (e : ℕ) → 2 * e + 1 ≡ suc (2 * e)
one_up e = omega arith

pub ticks-top : (f : Format) → ticks f (inf_pat f) ≡ 2 ^ (low f + suc (emax f))
ticks-top f =
    ap (ticks f) (sym (add-zero (inf_pat f)))
    ∙ ticks-at f (ones f) 0 (hid-pos f)
    ∙ ap (λ (x : ℕ). field f x 0) (one_up (emax f))
    ∙ ap (λ (x : ℕ). x * 2 ^ (2 * emax f)) (add-zero (hid f))
    ∙ sym (pow-add 2 (prec f - 1) (2 * emax f))
    ∙ ap (λ (x : ℕ). 2 ^ x) (exponent (prec f) (emax f) (two f))

-- ---- a finite pattern's number is q * 2 ^ j with q of at most prec digits
lead : (p t : ℕ) → 2 ≤ p → t < 2 ^ (p - 1) → 2 ^ (p - 1) + t < 2 ^ p
lead p t h k = lt_of_lt_of_le (go (2 ^ (p - 1)) t k) (le_of_eq (sym (pow-succ' 2 (p - 1)) ∙ ap (λ (x : ℕ). 2 ^ x) (back p h)))
  where
    go : (a t : ℕ) → t < a → a + t < 2 * a
    go a t h = omega arith

    back : (p : ℕ) → 2 ≤ p → suc (p - 1) ≡ p
    back p h = omega arith

digits : (f : Format) (x t : ℕ) → t < hid f → (q : ℕ) × (j : ℕ) × (q < 2 ^ prec f) × (field f x t ≡ q * 2 ^ j)
digits f zero t h = (t, 0, lt_of_lt_of_le h (pow_mono (sub-le (prec f) 1)), sym (mul-one t))
digits f (suc x) t h = (hid f + t, x, lead (prec f) t (two f) h, refl)

-- ---- a value by its sign and size
same_units : (x N c a d L : ℕ) → 0 < d → x * c ≡ a * d → x * L ≡ N * d → N * c ≡ a * L
same_units x N c a d L D h k = eq_of_mul-eq-mul_right d D (N * c) (a * L) (mul_right_comm N c d ∙ ap (λ (z : ℕ). z * c) (sym k) ∙ mul_right_comm x L c ∙ ap (λ (z : ℕ). z * L) h ∙ mul_right_comm a d L)

ticks-inj : (f : Format) (b c : ℕ) → ticks f b ≡ ticks f c → b ≡ c
ticks-inj f b c e = elim (yes_or_no (ltb b c)) [
  | inl t ↦ absurd (lt_irrefl (ticks f c) (subst (λ (z : ℕ). z < ticks f c) e (ticks-lt f b c (ltb→lt b c t))))
  | inr t ↦ go (native.Mathlib.Nat.eq-or-lt_of_le (nltb→le b c t))
]
  where
    go : (c ≡ b) ⊎ (c < b) → b ≡ c
    go (inl p) = sym p
    go (inr l) = absurd (lt_irrefl (ticks f c) (subst (λ (z : ℕ). ticks f c < z) e (ticks-lt f c b l)))

pub unique : (f : Format) (x y : Float) (s : Bool) (a c : ℕ) → 0 < c → T (fits f x) → T (fits f y) → HasValue x s a c → HasValue y s a c → x ≡ y
unique f nan y s a c C h k p q = absurd p
unique f (inf t) y s a c C h k p q = absurd p
unique f (fin t m e) nan s a c C h k p q = absurd q
unique f (fin t m e) (inf u) s a c C h k p q = absurd q
unique f (fin t m e) (fin u n d) s a c C h k p q =
    let x = fin t m e in
    let y = fin u n d in
    let N = ticks f (mag f x) in
    let M = ticks f (mag f y) in
    let v : N ≡ M = eq_of_mul-eq-mul_right c C N M
    (same_units (m * up e) N c a (down e) (2 ^ low f) (down_pos e) p.1 (units_of f t m e h).1 ∙ sym
    (same_units (n * up d) M c a (down d) (2 ^ low f) (down_pos d) q.1 (units_of f u n d k).1)) in
    let b : to_bits f x ≡ to_bits f y =
    to_bits-split f t m e
    ∙ ap (λ (z : Bool). cond z (lib.Ieee.top f) 0 + mag f x) (p.0 ∙ sym q.0)
    ∙ ap (λ (z : ℕ). cond u (lib.Ieee.top f) 0 + z) (ticks-inj f (mag f x) (mag f y) v)
    ∙ sym (to_bits-split f u n d) in
    sym (of_bits-to_bits f x h) ∙ ap (of_bits f) b ∙ of_bits-to_bits f y k

-- ---- its own rounding
pub own : (f : Format) (s : Bool) (m : ℕ) (e : ℤ) → T (fits f (fin s m e)) → round f s (m * up e) (down e) ≡ fin s m e
own f s m e h =
    let b = mag f (fin s m e) in
    let z = digits f (b / hid f) (b % hid f) (mod-lt b (hid-pos f)) in
    let fine : z.0 * 2 ^ z.1 < 2 ^ (low f + suc (emax f)) = lt_of_lt_of_le (subst (λ (w : ℕ). w < ticks f (inf_pat f)) z.3 (ticks-lt f b (inf_pat f) (mag-lt f s m e h))) (le_of_eq (ticks-top f)) in
    let r : HasValue (round f s (m * up e) (down e)) s (m * up e) (down e) =
    round_exact f s (m * up e) (down e) z.0 z.1 (down_pos e) z.2 fine ((units_of f s m e h).1 ∙ ap (λ (w : ℕ). w * down e) z.3) in
    unique f (round f s (m * up e) (down e)) (fin s m e) s (m * up e) (down e) (down_pos e) (round-fits f s (m * up e) (down e)) h r (refl, refl)
