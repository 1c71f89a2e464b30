-- The pattern of the double above, where no test is left to make: below infinity, and not -0.0. Assumes nothing.
use mathlib.Core.Path.{◌≡◌, refl, sym, ap, ◌∙◌}
use mathlib.Core.Bool.{Bool, true, false, cond}
use Prim.Native.Nat.{ℕ, zero, suc, ◌+◌, ◌-◌, ◌*◌, ◌/◌, ◌<◌}
use native.Mathlib.Nat.{mul-pos, mul-one}
use native.Mathlib.Omega.{arith}
use lib.IntN.{ℤ, pos}
use lib.Dec.{T}
use lib.Ieee.{Float, nan, inf, fin, binary64, up, down, round, sum, add, fits, is_nan, lt, neg, of_bits, to_bits}
use lib.Ieee.Fits.{down_pos, up_pos}
use lib.Ieee.Scale.{round_same}
use borrow.Author.Tests.{lt-ltb, le-ltb}
use Rattle.doubles.specs.Neighbour.{next_up, up_from}
use Rattle.doubles.specs.Place.{inf_pat, mag}
use Rattle.doubles.specs.Value.{Number, zero+}
use lib.Ieee.Bits.{is_true}
use Rattle.doubles.proofs.TestFacts.{T_of}
use Rattle.doubles.proofs.Order.{lt-top}
use Rattle.doubles.proofs.Own.{own}
use Rattle.doubles.proofs.Rising.{Below}
use Rattle.doubles.proofs.Place.{mag-lt, mag-zero, to_bits_inf, to_bits-split}
use Rattle.doubles.proofs.Enclose.{zero-rounds, round-neg}
use Rattle.ends.specs.Ends.{greatest, capped_of}

abbrev sign : ℕ
sign = 0x8000_0000_0000_0000

-- the step as it counts the sign
abbrev pub pattern_up : ℕ → ℕ
pattern_up b = b - 2 * (b / sign) + 1

clear_step : (b : ℕ) → b < sign → pattern_up b ≡ b + 1
clear_step b h = omega arith

set-step : (b m : ℕ) → b ≡ sign + m → m < sign → pattern_up b ≡ b - 1
set-step b m e h = omega arith

-- all but -0.0, a NaN and infinity
abbrev pub Plain : Float → Type 0
Plain nan = ⊥
Plain (inf true) = Unit
Plain (inf false) = ⊥
Plain (fin true zero e) = ⊥
Plain (fin true (suc m) e) = Unit
Plain (fin false m e) = Unit

pub plain-up : (x : Float) → T (fits binary64 x) → Plain x → next_up x ≡ of_bits binary64 (pattern_up (to_bits binary64 x))
unfolding up_from
plain-up nan h p = absurd p
plain-up (inf true) h p = ap (of_bits binary64) (sym (set-step (to_bits binary64 (inf true)) (inf_pat binary64) (to_bits_inf binary64) (omega arith)))
plain-up (inf false) h p = absurd p
plain-up (fin true zero e) h p = absurd p
plain-up (fin true (suc m) e) h p =
    let z = mag-lt binary64 true (suc m) e h in
    ap (of_bits binary64) (sym (set-step (to_bits binary64 (fin true (suc m) e)) (mag binary64 (fin true (suc m) e)) (to_bits-split binary64 true (suc m) e) (omega arith)))
plain-up (fin false zero e) h p = ap (of_bits binary64) (sym (ap pattern_up (mag-zero binary64 false e)))
plain-up (fin false (suc m) e) h p =
    let z = mag-lt binary64 false (suc m) e h in
    ap (of_bits binary64) (sym (clear_step (to_bits binary64 (fin false (suc m) e)) (omega arith)))

-- ---- x + 0.0
own-over : (s : Bool) (m : ℕ) (e : ℤ) (a : ℕ) → T (fits binary64 (fin s m e)) → a ≡ m * up e → round binary64 s a (down e * 1) ≡ fin s m e
own-over s m e a h k =
    round_same binary64 s a (down e * 1) (m * up e) (down e) (mul-pos (down_pos e) (omega arith)) (down_pos e) (ap (λ (z : ℕ). z * down e) k ∙ ap (λ (z : ℕ). m * up e * z) (sym (mul-one (down e))))
    ∙ own binary64 s m e h

-- what is left of x: the same number, and no -0.0
pub record Summed (x z : Float) : Type 0 where
  pub plain : Plain z
  pub number : Number z
  pub next : next_up z ≡ next_up x

at_zero : (a b d : ℕ) → a * 1 + 0 * b * d ≡ a
at_zero a b d = omega arith

no-parts : (u d : ℕ) → (0 * u * 1 ≡ 0) × (0 * 1 * d ≡ 0)
no-parts u d = (omega arith, omega arith)

zero_clear : (c : ℕ) → 0 < c → round binary64 false 0 c ≡ fin false 0 (pos 0)
unfolding neg
zero_clear c h = round-neg binary64 true 0 c ∙ ap neg (zero-rounds binary64 c h)

zero-sum : (a b c : ℕ) → (a ≡ 0) × (b ≡ 0) → 0 < c → sum binary64 true a false b c ≡ fin false 0 (pos 0)
unfolding sum
zero-sum a b c z h = rw (z.0, z.1) (zero_clear c h)

pub plus-zero : (x : Float) → T (fits binary64 x) → Below x → Summed x (add binary64 x zero+)
plus-zero nan h l = absurd (unfold lt in l)
plus-zero (inf true) h l = unfold add in record { plain = tt; number = unfold is_nan in tt; next = refl }
plus-zero (inf false) h l = absurd (unfold lt in l)
plus-zero (fin false m e) h l =
    let k : add binary64 (fin false m e) zero+ ≡ fin false m e = unfold add sum in own-over false m e (m * up e * 1 + 0 * 1 * down e) h (at_zero (m * up e) 1 (down e)) in
    rw k (record { plain = tt; number = unfold is_nan in tt; next = refl })
plus-zero (fin true zero e) h l =
    let k : add binary64 (fin true 0 e) zero+ ≡ fin false 0 (pos 0) = unfold add in zero-sum _ _ _ (no-parts (up e) (down e)) (mul-pos (down_pos e) (omega arith)) in
    rw k (record { plain = tt; number = unfold is_nan in tt; next = unfold up_from in refl })
plus-zero (fin true (suc m) e) h l =
    let a = suc m * up e * 1 in
    let b = 0 * 1 * down e in
    let p : 0 < suc m * up e = mul-pos (omega arith) (up_pos e) in
    let k : add binary64 (fin true (suc m) e) zero+ ≡ fin true (suc m) e =
    unfold add sum in rw (le-ltb a b (omega arith), lt-ltb b a (omega arith)) (own-over true (suc m) e (a - b) h (omega arith)) in
    rw k (record { plain = tt; number = unfold is_nan in tt; next = refl })

-- what is capped lies below infinity
pub capped-below : (x : Float) → lt (capped_of x) (inf false) ≡ true
capped-below x = go (lt x greatest) refl
  where
    go : (b : Bool) → lt x greatest ≡ b → lt (cond b x greatest) (inf false) ≡ true
    go true e = is_true _ (lt-top x greatest (T_of _ e))
    go false e = unfold lt in refl
