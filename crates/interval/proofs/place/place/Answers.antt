-- The place of a double: below the sign's weight the pattern itself, from there on what is left of it, negated. Assumes nothing.
use Rattle.std.proofs.Common.{◌≡◌, ℕ, zero, suc, ◌-◌, ◌<◌, true, T, ℤ, pos, ◌-ℤ◌, neg_ℤ, sym, refl, ap, ◌∙◌, subst, arith, w64, SFits, to_z, of_z}
use lib.IntN.{+ℤ_idl}
use lib.Ieee.{Float, nan, inf, fin, binary64, fits, to_bits, is_nan}
use mir.ValLaws.{to_z-of_z, to_z_pos}
use borrow.Author.Rules.{sfits_of}
use Rattle.doubles.specs.Value.{Number}
use Rattle.doubles.specs.Place.{mag, place as place_of}
use Rattle.doubles.proofs.TestFacts.{nan-no, nan-yes, Tn-of}
use Rattle.doubles.proofs.Distance.{mag-small, place-low, place-high}
use Rattle.interval.proofs.place.place.Goals as goal

small-neg : (n : ℕ) → n < 9223372036854775808 → SFits w64 (neg_ℤ (pos n))
small-neg zero h = sfits_of h
small-neg (suc n) h = sfits_of (omega arith)

no_place : (x : Float) → is_nan x ≡ true → pos 0 ≡ place_of binary64 x
unfolding is_nan
no_place nan e = refl
no_place (inf s) e = absurd (subst T (sym e) tt)
no_place (fin s m d) e = absurd (subst T (sym e) tt)

pub float_to_bits-b : goal.float_to_bits-b
float_to_bits-b c = (let number' : Number c.args.x = Tn-of _ (nan-no c.args.x c.if-x.true) in number')

pub overflow_cast-result-else-b-lt9223372036854775808 : goal.overflow_cast-result-else-b-lt9223372036854775808
overflow_cast-result-else-b-lt9223372036854775808 c = sfits_of (subst (λ (n : ℕ). n < 9223372036854775808) (sym (let high' : (to_bits binary64 c.args.x - 9223372036854775808 ≡ mag binary64 c.args.x) ×
    (neg_ℤ (pos (mag binary64 c.args.x)) ≡ place_of binary64 c.args.x) = place-high c.args.x (let held' : T (fits binary64 c.args.x) = subst T (sym c.well_formed.0.1) tt in held') (let number' : Number c.args.x = Tn-of _ (nan-no c.args.x c.if-x.true) in number') c.if-b-lt9223372036854775808.false in high').0) (let small' : mag binary64 c.args.x < 9223372036854775808 = mag-small c.args.x (let held' : T (fits binary64 c.args.x) = subst T (sym c.well_formed.0.1) tt in held') in small'))

pub overflow_sub-result-else-b-lt9223372036854775808 : goal.overflow_sub-result-else-b-lt9223372036854775808
overflow_sub-result-else-b-lt9223372036854775808 c = subst (λ (z : ℤ). SFits w64 z) (sym (let minus' : pos 0 -ℤ to_z w64 (to_bits binary64 c.args.x - 9223372036854775808) ≡ neg_ℤ (pos (mag binary64 c.args.x)) = ap (λ (n : ℕ). pos 0 -ℤ to_z w64 n) (let high' : (to_bits binary64 c.args.x - 9223372036854775808 ≡ mag binary64 c.args.x) ×
    (neg_ℤ (pos (mag binary64 c.args.x)) ≡ place_of binary64 c.args.x) = place-high c.args.x (let held' : T (fits binary64 c.args.x) = subst T (sym c.well_formed.0.1) tt in held') (let number' : Number c.args.x = Tn-of _ (nan-no c.args.x c.if-x.true) in number') c.if-b-lt9223372036854775808.false in high').0
    ∙ ap (λ (z : ℤ). pos 0 -ℤ z) (to_z_pos w64 (mag binary64 c.args.x) (let small' : mag binary64 c.args.x < 9223372036854775808 = mag-small c.args.x (let held' : T (fits binary64 c.args.x) = subst T (sym c.well_formed.0.1) tt in held') in small'))
    ∙ +ℤ_idl (neg_ℤ (pos (mag binary64 c.args.x))) in minus')) (small-neg (mag binary64 c.args.x) (let small' : mag binary64 c.args.x < 9223372036854775808 = mag-small c.args.x (let held' : T (fits binary64 c.args.x) = subst T (sym c.well_formed.0.1) tt in held') in small'))

pub returns-then-b-lt9223372036854775808 : goal.returns-then-b-lt9223372036854775808
returns-then-b-lt9223372036854775808 c = to_z_pos w64 _ c.if-b-lt9223372036854775808.true ∙ place-low c.args.x (let number' : Number c.args.x = Tn-of _ (nan-no c.args.x c.if-x.true) in number') c.if-b-lt9223372036854775808.true

pub returns-else-b-lt9223372036854775808 : goal.returns-else-b-lt9223372036854775808
returns-else-b-lt9223372036854775808 c = ap (λ (z : ℤ). to_z w64 (of_z w64 z)) (let minus' : pos 0 -ℤ to_z w64 (to_bits binary64 c.args.x - 9223372036854775808) ≡ neg_ℤ (pos (mag binary64 c.args.x)) = ap (λ (n : ℕ). pos 0 -ℤ to_z w64 n) (let high' : (to_bits binary64 c.args.x - 9223372036854775808 ≡ mag binary64 c.args.x) ×
    (neg_ℤ (pos (mag binary64 c.args.x)) ≡ place_of binary64 c.args.x) = place-high c.args.x (let held' : T (fits binary64 c.args.x) = subst T (sym c.well_formed.0.1) tt in held') (let number' : Number c.args.x = Tn-of _ (nan-no c.args.x c.if-x.true) in number') c.if-b-lt9223372036854775808.false in high').0
    ∙ ap (λ (z : ℤ). pos 0 -ℤ z) (to_z_pos w64 (mag binary64 c.args.x) (let small' : mag binary64 c.args.x < 9223372036854775808 = mag-small c.args.x (let held' : T (fits binary64 c.args.x) = subst T (sym c.well_formed.0.1) tt in held') in small'))
    ∙ +ℤ_idl (neg_ℤ (pos (mag binary64 c.args.x))) in minus') ∙ to_z-of_z w64 _ (small-neg (mag binary64 c.args.x) (let small' : mag binary64 c.args.x < 9223372036854775808 = mag-small c.args.x (let held' : T (fits binary64 c.args.x) = subst T (sym c.well_formed.0.1) tt in held') in small')) ∙ (let high' : (to_bits binary64 c.args.x - 9223372036854775808 ≡ mag binary64 c.args.x) ×
    (neg_ℤ (pos (mag binary64 c.args.x)) ≡ place_of binary64 c.args.x) = place-high c.args.x (let held' : T (fits binary64 c.args.x) = subst T (sym c.well_formed.0.1) tt in held') (let number' : Number c.args.x = Tn-of _ (nan-no c.args.x c.if-x.true) in number') c.if-b-lt9223372036854775808.false in high').1

pub returns-else-x : goal.returns-else-x
returns-else-x c = no_place c.args.x (nan-yes _ c.if-x.false)
