-- The wrapped difference of two places is the true one, since both are small and the first is not above the second. Assumes nothing.
use Rattle.std.proofs.Common.{◌≡◌, ℕ, ◌+◌, ◌%◌, ◌<◌, Bool, cond, T, ℤ, pos, negsuc, ◌-ℤ◌, nat_abs, sym, ap, ◌∙◌, subst, arith, w64, SFits, to_z, of_z}
use lib.Ieee.{Float, binary64, fits, le}
use mir.ValLaws.{to_z-of_z}
use borrow.Author.Rules.{sfits_of}
use Rattle.doubles.specs.Place.{place as place_of, wrapped, steps_of}
use Rattle.doubles.proofs.TestFacts.{T_of}
use Rattle.doubles.proofs.Order.{le_left, le_right}
use Rattle.doubles.proofs.Distance.{place-small, distance, order}
use Rattle.interval.proofs.place.steps.Goals as goal

-- a place is small, so it is read back as it was
fits-place : (z : ℤ) → nat_abs z < 9223372036854775808 → SFits w64 z
fits-place (pos n) h = sfits_of h
fits-place (negsuc n) h = sfits_of (omega arith)

back : (x : Float) → T (fits binary64 x) → (z : ℤ) → z ≡ place_of binary64 x → to_z w64 (of_z w64 z) ≡ place_of binary64 x
back x h z e = ap (λ (y : ℤ). to_z w64 (of_z w64 y)) e ∙ to_z-of_z w64 (place_of binary64 x) (fits-place (place_of binary64 x) (place-small x h))

small-back : (x : Float) → T (fits binary64 x) → (z : ℤ) → z ≡ place_of binary64 x → nat_abs (to_z w64 (of_z w64 z)) < 9223372036854775808
small-back x h z e = subst (λ (y : ℤ). nat_abs y < 9223372036854775808) (sym (back x h z e)) (place-small x h)

pub image-requires : goal.image-requires
image-requires c = small-back c.args.hi (let held-hi' : T (fits binary64 c.args.hi) = subst T (sym c.well_formed.1.0.1) tt in held-hi') c.place.result c.place.ensures

pub image-requires-then-lo-hi : goal.image-requires-then-lo-hi
image-requires-then-lo-hi c = small-back c.args.lo (let held-lo' : T (fits binary64 c.args.lo) = subst T (sym c.well_formed.0.1) tt in held-lo') c.place-then-lo-hi.result c.place-then-lo-hi.ensures

pub returns-then-lo-hi : goal.returns-then-lo-hi
unfolding steps_of
returns-then-lo-hi c = let lo = c.args.lo in
    let hi = c.args.hi in
    let l = T_of (le lo hi) c.if-lo-hi.true in
    distance c.wrapping_sub_u64.result (place_of binary64 hi) (place_of binary64 lo) c.wrapping_sub_u64.type_inv (place-small hi (let held-hi' : T (fits binary64 c.args.hi) = subst T (sym c.well_formed.1.0.1) tt in held-hi')) (place-small lo (let held-lo' : T (fits binary64 c.args.lo) = subst T (sym c.well_formed.0.1) tt in held-lo'))
    (order lo hi (let held-lo' : T (fits binary64 c.args.lo) = subst T (sym c.well_formed.0.1) tt in held-lo') (let held-hi' : T (fits binary64 c.args.hi) = subst T (sym c.well_formed.1.0.1) tt in held-hi') (le_left lo hi l) (le_right lo hi l) l)
    (ap
    (λ (n : ℕ). (c.wrapping_sub_u64.result + n) % 18446744073709551616)
    (sym (c.image-then-lo-hi.ensures ∙ ap wrapped (back lo (let held-lo' : T (fits binary64 c.args.lo) = subst T (sym c.well_formed.0.1) tt in held-lo') c.place-then-lo-hi.result c.place-then-lo-hi.ensures)))
    ∙ c.wrapping_sub_u64.ensures.value
    ∙ c.image.ensures
    ∙ ap wrapped (back hi (let held-hi' : T (fits binary64 c.args.hi) = subst T (sym c.well_formed.1.0.1) tt in held-hi') c.place.result c.place.ensures))
    ∙ ap (λ (b : Bool). cond b (place_of binary64 hi -ℤ place_of binary64 lo) (pos 0)) (sym c.if-lo-hi.true)

pub returns-else-lo-hi : goal.returns-else-lo-hi
unfolding steps_of
returns-else-lo-hi c = ap (λ (b : Bool). cond b (place_of binary64 c.args.hi -ℤ place_of binary64 c.args.lo) (pos 0)) (sym c.if-lo-hi.false)
