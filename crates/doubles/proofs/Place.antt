-- `next_up` adds one to a double's place, and `<` is the order of places.
-- Assumes nothing.
use mathlib.Core.Path.{◌≡◌, refl, sym, ap, ◌∙◌, subst}
use mathlib.Core.Logic.{◌⊎◌, inl, inr}
use Prim.Native.Nat.{ℕ, zero, suc, ◌+◌, ◌-◌, ◌*◌, ◌/◌, ◌%◌, ◌^◌, ◌≤◌, ◌<◌}
use native.Mathlib.Nat.{le_of_eq, le_refl, le_of_lt, lt_of_lt_of_le, lt_irrefl, zero-lt-suc, zero-add, zero-mul, mul_comm, mul-pos, mod-lt, div-lt_iff_lt-mul, le-div_iff_mul-le}
use native.Mathlib.Nat.{eq-or-lt_of_le, le_of_suc-le-suc, not-le_of_lt, le_antisymm, zero-div, zero-sub, lt_of_not-le, eq-zero-or-pos}
use native.Mathlib.Omega.{arith}
use mathlib.Core.Bool.{Bool, true, false, not, cond, true≢false}
use lib.IntN.{ℤ, pos, negsuc, neg_ℤ, suc_ℤ}
use lib.Dec.{T, leb, ltb, eqb, leb→le, ltb→lt, nltb→le, nleb→lt}
use lib.Pow.{pow_pos}
use lib.Ieee.{Float, nan, inf, fin, Format, prec, emax, low, up, down, size, fits, is_nan, hid, ones, top, of_bits, to_bits, lt}
use lib.Ieee.Fits.{up_pos}
use lib.Ieee.Bits.{of_bits-to_bits, to_bits-lt, to_bits-of_bits}
use lib.Ieee.Exact.{HasValue}
use Rattle.doubles.specs.Neighbour.{up_from}
use Rattle.doubles.specs.Value.{signed}
use Rattle.doubles.specs.Place.{sign_bit, inf_pat, mag, place}
use Rattle.doubles.proofs.TestFacts.{yes_or_no}
use Rattle.doubles.proofs.Pattern.{ticks, ticks-zero, hid-pos, bits-ticks, inf_bits, fields, of_fields-ones}

-- ---- a finite value's pattern
pub to_bits-split : (f : Format) (s : Bool) (m : ℕ) (e : ℤ) → to_bits f (fin s m e) ≡ cond s (top f) 0 + mag f (fin s m e)
unfolding to_bits
to_bits-split f s m e = go (cond s (top f) 0) ((size (m * up e * 2 ^ low f / down e) - prec f) * hid f) (m * up e * 2 ^ low f / down e / 2 ^ (size (m * up e * 2 ^ low f / down e) - prec f))
  where
    go : (a b c : ℕ) → a + b + c ≡ a + (0 + b + c)
    go a b c = omega arith

pub fits-plus : (f : Format) (s : Bool) (m : ℕ) (e : ℤ) → T (fits f (fin s m e)) → T (fits f (fin false m e))
unfolding fits
fits-plus f s zero e h = h
fits-plus f s (suc m) e h = h

abbrev Plus : Float → Type 0
Plus nan = ⊥
Plus (inf s) = ⊥
Plus (fin s m e) = s ≡ false

value-sign : (v : Float) (s : Bool) (a c : ℕ) → HasValue v s a c → Plus v → s ≡ false
value-sign nan s a c h p = absurd p
value-sign (inf t) s a c h p = absurd p
value-sign (fin t m e) s a c h p = sym h.0 ∙ p

not_top : (s : Bool) (b : Bool) → Plus (cond b (inf s) nan) → ⊥
not_top s true p = p
not_top s false p = p

pub inf_pat<top : (f : Format) → inf_pat f < top f
inf_pat<top f = lt_of_lt_of_le (go (ones f * hid f) (hid f) (hid-pos f)) (le_of_eq (suc-mul' (ones f) (hid f) ∙ mul_comm (suc (ones f)) (hid f)))
  where
    go : (a h : ℕ) → 0 < h → a < a + h
    go a h p = omega arith

    suc-mul' : (a h : ℕ) → a * h + h ≡ suc a * h
    suc-mul' a h = sym (native.Mathlib.Nat.suc-mul a h)

-- a pattern from the infinity's up is no finite value's, and one with its sign set is no value's without
plus-small : (f : Format) (b : ℕ) → b < 2 * top f → Plus (of_bits f b) → b < inf_pat f
plus-small f b B p = lt_of_not-le (λ (h : inf_pat f ≤ b). go h (yes_or_no (leb (top f) b)))
  where
    upper : (t b : ℕ) → t ≤ b → b < 2 * t → t + (b - t) ≡ b
    upper t b h k = omega arith

    rest : (t b i : ℕ) → t ≤ b → b < 2 * t → b - t < t
    rest t b i h k = omega arith

    -- b = s * top + r with r below top
    read : (s : Bool) (r : ℕ) → r < top f → Plus (of_bits f (cond s (top f) 0 + r)) → (s ≡ false) × (r < inf_pat f)
    read s r R q = elim (yes_or_no (ltb r (inf_pat f))) [
      | inl t ↦ (value-sign (of_bits f (cond s (top f) 0 + r)) s (ticks f r) (2 ^ low f) (bits-ticks f s r (ltb→lt r (inf_pat f) t)) q, ltb→lt r (inf_pat f) t)
      | inr n ↦ absurd (high s r R (nltb→le r (inf_pat f) n) q)
    ]
      where
        high : (s : Bool) (r : ℕ) → r < top f → inf_pat f ≤ r → Plus (of_bits f (cond s (top f) 0 + r)) → ⊥
        high s r R h q =
            let x = r / hid f in
            let X : x < suc (ones f) = (div-lt_iff_lt-mul (hid-pos f)).1 (subst (λ (z : ℕ). r < z) (mul_comm (hid f) (suc (ones f))) R) in
            let e : x ≡ ones f = le_antisymm (le_of_suc-le-suc X) ((le-div_iff_mul-le (hid-pos f)).1 h) in
            not_top s (eqb (r % hid f) 0)
            (subst Plus
            (ap (λ (z : ℕ). of_bits f (cond s (top f) 0 + z)) (sym (native.Mathlib.Nat.div-add-mod' r (hid f)))
            ∙ fields f s x (r % hid f) X (mod-lt r (hid-pos f)) ∙ of_fields-ones f s x (r % hid f) e)
            q)

    go : inf_pat f ≤ b → T (leb (top f) b) ⊎ T (not (leb (top f) b)) → ⊥
    go h (inl t) = true≢false (read true (b - top f) (rest (top f) b 0 (leb→le (top f) b t) B) (subst (λ (z : ℕ). Plus (of_bits f z)) (sym (upper (top f) b (leb→le (top f) b t) B)) p)).0
    go h (inr n) = not-le_of_lt (read false b (nleb→lt (top f) b n) (subst (λ (z : ℕ). Plus (of_bits f z)) (sym (zero-add b)) p)).1 h

pub mag-lt : (f : Format) (s : Bool) (m : ℕ) (e : ℤ) → T (fits f (fin s m e)) → mag f (fin s m e) < inf_pat f
mag-lt f s m e h =
    let k = fits-plus f s m e h in
    plus-small f (to_bits f (fin false m e)) (to_bits-lt f (fin false m e) k) (subst Plus (sym (of_bits-to_bits f (fin false m e) k)) refl)

-- a finite value in units of the format's smallest
pub units_of : (f : Format) (s : Bool) (m : ℕ) (e : ℤ) → T (fits f (fin s m e)) → HasValue (fin s m e) s (ticks f (mag f (fin s m e))) (2 ^ low f)
units_of f s m e h =
    subst
    (λ (v : Float). HasValue v s (ticks f (mag f (fin s m e))) (2 ^ low f)) (ap (of_bits f) (sym (to_bits-split f s m e)) ∙ of_bits-to_bits f (fin s m e) h)
    (bits-ticks f s (mag f (fin s m e)) (mag-lt f s m e h))

-- ---- the place of what is read from a pattern
both_halves : (f : Format) (s : Bool) (b : ℕ) (v : Float) (a c : ℕ) → HasValue v s a c → to_bits f v ≡ cond s (top f) 0 + b → (sign_bit v ≡ s) × (mag f v ≡ b)
both_halves f s b nan a c h e = absurd h
both_halves f s b (inf t) a c h e = absurd h
both_halves f s b (fin t m d) a c h e = (h.0, cancel (cond s (top f) 0) (mag f (fin t m d)) b (ap (λ (z : Bool). cond z (top f) 0 + mag f (fin t m d)) (sym h.0) ∙ sym (to_bits-split f t m d) ∙ e))
  where
    cancel : (a b c : ℕ) → a + b ≡ a + c → b ≡ c
    cancel a b c h = omega arith

no_nan : (v : Float) (s : Bool) (a c : ℕ) → HasValue v s a c → T (not (is_nan v))
unfolding is_nan
no_nan nan s a c h = absurd h
no_nan (inf t) s a c h = absurd h
no_nan (fin t m e) s a c h = tt

bits-lt : (f : Format) (s : Bool) (b : ℕ) → b < top f → cond s (top f) 0 + b < 2 * top f
bits-lt f true b h = go (top f) b h
  where
    go : (t b : ℕ) → b < t → t + b < 2 * t
    go t b h = omega arith
bits-lt f false b h = go (top f) b h
  where
    go : (t b : ℕ) → b < t → 0 + b < 2 * t
    go t b h = omega arith

pub bits-halves : (f : Format) (s : Bool) (b : ℕ) → b ≤ inf_pat f → (sign_bit (of_bits f (cond s (top f) 0 + b)) ≡ s) × (mag f (of_bits f (cond s (top f) 0 + b)) ≡ b)
bits-halves f s b h = elim (eq-or-lt_of_le h) [
  | inl e ↦ let i : of_bits f (cond s (top f) 0 + b) ≡ inf s = ap (λ (z : ℕ). of_bits f (cond s (top f) 0 + z)) e ∙ inf_bits f s in (ap sign_bit i, ap (mag f) i ∙ sym e)
  | inr l ↦
      let v = of_bits f (cond s (top f) 0 + b) in
      let k : HasValue v s (ticks f b) (2 ^ low f) = bits-ticks f s b l in
      both_halves f s b v (ticks f b) (2 ^ low f) k (to_bits-of_bits f (cond s (top f) 0 + b) (bits-lt f s b (lt_of_lt_of_le l (le_of_lt (inf_pat<top f)))) (no_nan v s (ticks f b) (2 ^ low f) k))
]

pub bits-place : (f : Format) (s : Bool) (b : ℕ) → b ≤ inf_pat f → place f (of_bits f (cond s (top f) 0 + b)) ≡ signed s b
bits-place f s b h =
    let z = bits-halves f s b h in
    let v = of_bits f (cond s (top f) 0 + b) in
    ap (λ (t : Bool). signed t (mag f v)) z.0 ∙ ap (signed s) z.1

-- ---- zero, and what is not zero
pub mag-zero : (f : Format) (s : Bool) (e : ℤ) → mag f (fin s 0 e) ≡ 0
unfolding to_bits size
mag-zero f s e =
    ap
    (λ (n : ℕ). 0 + (size n - prec f) * hid f + n / 2 ^ (size n - prec f))
    (ap (λ (n : ℕ). n * 2 ^ low f / down e) (zero-mul (up e)) ∙ ap (λ (n : ℕ). n / down e) (zero-mul (2 ^ low f)) ∙ zero-div (down e))
    ∙ ap (λ (k : ℕ). 0 + k * hid f + 0 / 2 ^ k) (zero-sub (prec f))
    ∙ go (hid f)
  where
    go : (h : ℕ) → 0 + 0 * h + 0 / 2 ^ 0 ≡ 0
    go h = omega arith

pub mag-pos : (f : Format) (s : Bool) (m : ℕ) (e : ℤ) → T (fits f (fin s (suc m) e)) → 0 < mag f (fin s (suc m) e)
mag-pos f s m e h = elim (eq-zero-or-pos (mag f (fin s (suc m) e))) [
  | inl z ↦
      absurd (no (suc m * up e * 2 ^ low f) (mul-pos (mul-pos (zero-lt-suc m) (up_pos e)) (pow_pos (low f)))
      ((units_of f s (suc m) e h).1 ∙ ap (λ (b : ℕ). ticks f b * down e) z ∙ ap (λ (b : ℕ). b * down e) (ticks-zero f) ∙ zero-mul (down e)))
  | inr p ↦ p
]
  where
    no : (a : ℕ) → 0 < a → a ≡ 0 → ⊥
    no a p e = omega arith

-- ---- one up
pub signed-suc : (n : ℕ) → 0 < n → signed true (n - 1) ≡ suc_ℤ (signed true n)
signed-suc zero h = absurd (lt_irrefl 0 h)
signed-suc (suc n) h = ap (λ (z : ℕ). signed true z) (pred n) ∙ go n
  where
    pred : (n : ℕ) → suc n - 1 ≡ n
    pred n = omega arith

    go : (n : ℕ) → neg_ℤ (pos n) ≡ suc_ℤ (negsuc n)
    go zero = refl
    go (suc n) = refl

pub inf_pat-pos : (f : Format) → 0 < inf_pat f
inf_pat-pos f = mul-pos (go (emax f)) (hid-pos f)
  where
    go : (e : ℕ) → 0 < 2 * e + 1
    go e = omega arith

minus_one : (t b : ℕ) → 0 < b → t + b - 1 ≡ t + (b - 1)
minus_one t b h = omega arith

pred-le : (b i : ℕ) → b ≤ i → b - 1 ≤ i
pred-le b i h = omega arith

-- The double above x is read from a pattern b with a sign s, no NaN's, whose place is one more than x's.
abbrev pub Above : Format → Float → ℤ → Type 0
Above f y z = (s : Bool) × (b : ℕ) × (y ≡ of_bits f (cond s (top f) 0 + b)) × (b ≤ inf_pat f) × (signed s b ≡ z)

down-neg : (f : Format) (n b : ℕ) → n ≡ top f + b → 0 < b → b ≤ inf_pat f → Above f (of_bits f (n - 1)) (suc_ℤ (signed true b))
down-neg f n b e p h = (true, b - 1, ap (of_bits f) (ap (λ (z : ℕ). z - 1) e ∙ minus_one (top f) b p), pred-le b (inf_pat f) h, signed-suc b p)

pub to_bits_inf : (f : Format) → to_bits f (inf true) ≡ top f + inf_pat f
unfolding to_bits
to_bits_inf f = refl

pub up-shape : (f : Format) (x : Float) → T (fits f x) → T (lt x (inf false)) → Above f (up_from f x) (suc_ℤ (place f x))
unfolding up_from lt
up-shape f nan h l = absurd l
up-shape f (inf true) h l = down-neg f (to_bits f (inf true)) (inf_pat f) (to_bits_inf f) (inf_pat-pos f) (le_refl (inf_pat f))
up-shape f (inf false) h l = absurd l
up-shape f (fin s zero e) h l = (false, 1, refl, inf_pat-pos f, sym (ap (λ (n : ℕ). suc_ℤ (signed s n)) (mag-zero f s e) ∙ zeros s))
  where
    zeros : (s : Bool) → suc_ℤ (signed s 0) ≡ pos 1
    zeros true = refl
    zeros false = refl
up-shape f (fin true (suc m) e) h l =
    down-neg f (to_bits f (fin true (suc m) e)) (mag f (fin true (suc m) e)) (to_bits-split f true (suc m) e) (mag-pos f true m e h) (le_of_lt (mag-lt f true (suc m) e h))
up-shape f (fin false (suc m) e) h l = (false, suc (mag f (fin false (suc m) e)), ap (of_bits f) (add' (to_bits f (fin false (suc m) e))), mag-lt f false (suc m) e h, refl)
  where
    add' : (a : ℕ) → a + 1 ≡ 0 + suc a
    add' a = omega arith

pub up-place : (f : Format) (x : Float) → T (fits f x) → T (lt x (inf false)) → place f (up_from f x) ≡ suc_ℤ (place f x)
up-place f x h l = let z = up-shape f x h l in ap (place f) z.2 ∙ bits-place f z.0 z.1 z.3 ∙ z.4

bits-no-nan : (f : Format) (s : Bool) (b : ℕ) → b ≤ inf_pat f → T (not (is_nan (of_bits f (cond s (top f) 0 + b))))
bits-no-nan f s b h = elim (eq-or-lt_of_le h) [
  | inl e ↦ subst (λ (v : Float). T (not (is_nan v))) (sym (ap (λ (z : ℕ). of_bits f (cond s (top f) 0 + z)) e ∙ inf_bits f s)) (unfold is_nan in tt)
  | inr l ↦ no_nan (of_bits f (cond s (top f) 0 + b)) s (ticks f b) (2 ^ low f) (bits-ticks f s b l)
]

pub up-number : (f : Format) (x : Float) → T (fits f x) → T (lt x (inf false)) → T (not (is_nan (up_from f x)))
up-number f x h l = let z = up-shape f x h l in subst (λ (v : Float). T (not (is_nan v))) (sym z.2) (bits-no-nan f z.0 z.1 z.3)
