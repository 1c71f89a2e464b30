use Rattle.std.proofs.Common.{◌≡◌, ℕ, suc, ◌+◌, ◌-◌, ◌%◌, ◌<◌, true, false, T, ltb, ℤ, pos, negsuc, ◌-ℤ◌, nat_abs, sym, refl, subst, true≢false, arith, ltb→lt, w64, Fits, SFits, to_z, of_z}
use Rattle.doubles.proofs.TestFacts.{T_of}
use lib.Signed.{lt_z, non_neg}
use mir.ValLaws.{to_z-of_z}
use Rattle.doubles.specs.Place.{wrapped}
use borrow.Author.Rules.{sfits_of}
use Rattle.interval.proofs.place.image.Goals as goal

same : (p : ℤ) → SFits w64 p → to_z w64 (of_z w64 p) ≡ p
same p h = to_z-of_z w64 p h

-- what is asked of 0 - p, for z = p read back
abbrev Asked : ℤ → Type 0
Asked z = (SFits w64 (pos 0 -ℤ z)) × ((T (non_neg (to_z w64 (of_z w64 (pos 0 -ℤ z))))) × (Fits w64 (nat_abs (to_z w64 (of_z w64 (pos 0 -ℤ z))))))

at : (p : ℤ) → nat_abs p < 9223372036854775808 → lt_z p (pos 0) ≡ true → Asked p
at (pos n) h l = absurd (none n (ltb→lt n 0 (T_of (ltb n 0) l)))
  where
    none : (n : ℕ) → n < 0 → ⊥
    none n h = omega arith
at (negsuc n) h l =
    let f : SFits w64 (pos (0 + suc n)) = sfits_of (small n h) in
    (f, subst (λ (z : ℤ). T (non_neg z) × Fits w64 (nat_abs z)) (sym (to_z-of_z w64 (pos (0 + suc n)) f)) (tt, record { fits = wide n h }))
  where
    small : (n : ℕ) → suc n < 9223372036854775808 → 0 + suc n < 9223372036854775808
    small n h = omega arith

    wide : (n : ℕ) → suc n < 9223372036854775808 → 0 + suc n < 18446744073709551616
    wide n h = omega arith

negative : (p : ℤ) → SFits w64 p → nat_abs p < 9223372036854775808 → lt_z (to_z w64 (of_z w64 p)) (pos 0) ≡ true → Asked (to_z w64 (of_z w64 p))
negative p f h l = subst Asked (sym (same p f)) (at p h (subst (λ (z : ℤ). lt_z z (pos 0) ≡ true) (same p f) l))

abbrev Cast : ℤ → ℤ → Type 0
Cast p z = ((T (non_neg z)) × (Fits w64 (nat_abs z))) × (nat_abs z ≡ wrapped p)

plain : (p : ℤ) → nat_abs p < 9223372036854775808 → lt_z p (pos 0) ≡ false → Cast p p
plain (pos n) h l = ((tt, record { fits = wide n h }), refl)
  where
    wide : (n : ℕ) → n < 9223372036854775808 → n < 18446744073709551616
    wide n h = omega arith
plain (negsuc n) h l = absurd (true≢false l)

positive : (p : ℤ) → SFits w64 p → nat_abs p < 9223372036854775808 → lt_z (to_z w64 (of_z w64 p)) (pos 0) ≡ false → Cast p (to_z w64 (of_z w64 p))
positive p f h l = subst (Cast p) (sym (same p f)) (plain p h (subst (λ (z : ℤ). lt_z z (pos 0) ≡ false) (same p f) l))

wraps : (p : ℤ) (r : ℕ) → SFits w64 p → nat_abs p < 9223372036854775808 → lt_z (to_z w64 (of_z w64 p)) (pos 0) ≡ true → r < 18446744073709551616
    → (r + nat_abs (to_z w64 (of_z w64 (pos 0 -ℤ to_z w64 (of_z w64 p))))) % 18446744073709551616 ≡ 0 → r ≡ wrapped p
wraps p r f h l R e =
    go p r h (subst (λ (z : ℤ). lt_z z (pos 0) ≡ true) (same p f) l) R
    (subst (λ (z : ℤ). (r + nat_abs (to_z w64 (of_z w64 (pos 0 -ℤ z)))) % 18446744073709551616 ≡ 0) (same p f) e)
  where
    round_up : (r n : ℕ) → suc n < 9223372036854775808 → r < 18446744073709551616 → (r + (0 + suc n)) % 18446744073709551616 ≡ 0 → r ≡ 18446744073709551616 - suc n
    round_up r n h R e = omega arith

    small : (n : ℕ) → suc n < 9223372036854775808 → 0 + suc n < 9223372036854775808
    small n h = omega arith

    none : (n : ℕ) → n < 0 → ⊥
    none n h = omega arith

    go : (p : ℤ) (r : ℕ) → nat_abs p < 9223372036854775808 → lt_z p (pos 0) ≡ true → r < 18446744073709551616 → (r + nat_abs (to_z w64 (of_z w64 (pos 0 -ℤ p)))) % 18446744073709551616 ≡ 0 → r ≡ wrapped p
    go (pos n) r h l R e = absurd (none n (ltb→lt n 0 (T_of (ltb n 0) l)))
    go (negsuc n) r h l R e = round_up r n h R (subst (λ (z : ℤ). (r + nat_abs z) % 18446744073709551616 ≡ 0) (to_z-of_z w64 (pos (0 + suc n)) (sfits_of (small n h))) e)

pub overflow_sub-p : goal.overflow_sub-p
overflow_sub-p c = (negative c.args.p c.ranges.p c.requires c.if-p-lt0.true).0

pub overflow_cast-p : goal.overflow_cast-p
overflow_cast-p c = (negative c.args.p c.ranges.p c.requires c.if-p-lt0.true).1

pub overflow_cast-result : goal.overflow_cast-result
overflow_cast-result c = (positive c.args.p c.ranges.p c.requires c.if-p-lt0.false).0

pub returns-then-p-lt0 : goal.returns-then-p-lt0
returns-then-p-lt0 c = wraps
    c.args.p c.wrapping_sub_u64.result c.ranges.p c.requires c.if-p-lt0.true c.wrapping_sub_u64.type_inv c.wrapping_sub_u64.ensures.value

pub returns-else-p-lt0 : goal.returns-else-p-lt0
returns-else-p-lt0 c = (positive c.args.p c.ranges.p c.requires c.if-p-lt0.false).1
