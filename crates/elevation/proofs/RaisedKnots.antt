-- The knots of a raised curve: where they begin and end, and how often a break stands there: e times, and once more where it was full.
-- Assumes nothing.
use Prim.Native.Nat.{ℕ, zero, suc, ◌+◌, ◌*◌}
use mathlib.Core.Bool.{Bool, true, false}
use mathlib.Core.Path.{◌≡◌, refl, ◌∙◌, ap}
use mathlib.Core.List.{List, [], ◌∷◌, ◌++◌}
use native.Mathlib.Omega.{arith}
use native.Mathlib.Nat.{zero-add}
use lib.ListN.{length, drop, replicate, get_or-replicate, length-replicate, get_or-append}
use lib.Seq.{drop_at, get_or-append-add}
use lib.Ieee.{Float, nan, lt, eq}
use lib.Ieee.Scale.{finite}
use Rattle.doubles.specs.Run.{at}
use Rattle.knots.specs.Knots.{ValidKnots}
use Rattle.edits.specs.Counts.{bit, count_below, multiplicity_of}
use Rattle.edits.specs.Start.{clamped_ends}
use Rattle.insertion.proofs.KnotCounts.{lt-not-eq, gt-not-eq, eq_self}
use Rattle.insertion.specs.Placed.{Each}
use Rattle.insertion.proofs.ListResult.{count_in, each_append, each-replicate, each_map, count-append, count-replicate}
use Rattle.elevation.specs.Breaks.{breaks_of, is_full}
use Rattle.elevation.specs.Elevate.{break_knots, raised_knots, raised_count}
use Rattle.elevation.proofs.Breaks.{Rising, each-zip, IsBreak, distinct, breaks-are}
use Rattle.elevation.proofs.Missing.{count-none-in}
use Rattle.elevation.proofs.KnotWalks.{raised-count}
use Rattle.elevation.proofs.Stands.{OnKnots}

-- ---- their number, first and last
module _ (p e n : ℕ) (ks bs : List Float) where
  abbrev starts : List Float
  starts = replicate (e + 1) (at ks p)

  abbrev inner : List Float
  inner = break_knots p e ks bs

  abbrev ends : List Float
  ends = replicate (e + 1) (at ks n)

  pub knots-first : OnKnots p e ks (at ks n) (raised_knots p e n ks bs) (at ks p) 0 bs
  unfolding raised_knots
  knots-first =
      let L = length-replicate (e + 1) (at ks p) in
      record {
        here = λ i x l. ap (at (starts ++ (inner ++ ends))) (zero-add i) ∙ get_or-append starts (inner ++ ends) nan i (omega arith) ∙ get_or-replicate (e + 1) i (at ks p) nan (omega arith);
        rest = let x : 0 + e + 1 ≡ e + 1 = omega arith in ap (λ (m : ℕ). drop m (starts ++ (inner ++ ends))) x ∙ drop_at starts (inner ++ ends) (e + 1) L;
      }

  pub last-knot : at (raised_knots p e n ks bs) (raised_count p e ks bs) ≡ at ks n
  unfolding raised_knots
  last-knot =
      let x : raised_count p e ks bs ≡ length starts + (length inner + 0) = omega (arith, raised-count p e ks bs, length-replicate (e + 1) (at ks p)) in
      ap (at (starts ++ (inner ++ ends))) x ∙ get_or-append-add starts (inner ++ ends) (length inner + 0) nan ∙ get_or-append-add inner ends 0 nan ∙ get_or-replicate (e + 1) 0 (at ks n) nan (omega arith)

-- ---- how often a break stands there
count-shift : (f : ℕ → Bool) (n : ℕ) → count_below f (suc n) ≡ bit (f 0) + count_below (λ j. f (suc j)) n
unfolding count_below
count-shift f zero = omega arith
count-shift f (suc n) = omega (arith, count-shift f n)

count-list : (f : Float → Bool) (xs : List Float) → count_below (λ j. f (at xs j)) (length xs) ≡ count_in f xs
unfolding count_below count_in
count-list f [] = refl
count-list f (x ∷ xs) = count-shift (λ j. f (at (x ∷ xs) j)) (length xs) ∙ ap (λ (m : ℕ). bit (f x) + m) (count-list f xs)

module _ (p e : ℕ) (ks : List Float) where
  each-knot : (P : Float → Type 0) (bs : List Float) → Each P bs → Each P (break_knots p e ks bs)
  unfolding break_knots
  each-knot P [] h = tt
  each-knot P (t ∷ bs) h = each_append P (replicate (e + bit (is_full p ks t)) t) (break_knots p e ks bs) (each-replicate P (e + bit (is_full p ks t)) t h.0) (each-knot P bs h.1)

  count-knots : (f : Float → Bool) (t : Float) (bs : List Float) → count_in f (break_knots p e ks (t ∷ bs)) ≡ (e + bit (is_full p ks t)) * bit (f t) + count_in f (break_knots p e ks bs)
  unfolding break_knots
  count-knots f t bs =
      count-append f (replicate (e + bit (is_full p ks t)) t) (break_knots p e ks bs) ∙ ap (λ (m : ℕ). m + count_in f (break_knots p e ks bs)) (count-replicate f (e + bit (is_full p ks t)) t)

  break-times : (bs : List Float) → Each (λ t. finite t ≡ true) bs → Rising bs → Each (λ u. count_in (λ x. eq x u) (break_knots p e ks bs) ≡ e + bit (is_full p ks u)) bs
  break-times [] F R = tt
  break-times (t ∷ bs) F R = (
    rw (count-knots (λ x. eq x t) t bs, eq_self t F.0, none) (omega arith),
    each_map (λ u. (lt t u ≡ true) × (count_in (λ x. eq x u) (break_knots p e ks bs) ≡ e + bit (is_full p ks u))) (λ u. count_in (λ x. eq x u) (break_knots p e ks (t ∷ bs)) ≡ e + bit (is_full p ks u))
        (λ u h. let k = h.1 in rw (count-knots (λ x. eq x u) t bs, lt-not-eq t u h.0) (omega arith)) bs
        (each-zip (λ u. lt t u ≡ true) (λ u. count_in (λ x. eq x u) (break_knots p e ks bs) ≡ e + bit (is_full p ks u)) bs R.0 (break-times bs F.1 R.1)),
  )
    where
      none : count_in (λ x. eq x t) (break_knots p e ks bs) ≡ 0
      none = count-none-in (λ x. eq x t) (break_knots p e ks bs) (each-knot (λ x. eq x t ≡ false) bs
          (each_map (λ x. (finite x ≡ true) × (lt t x ≡ true)) (λ x. eq x t ≡ false) (λ x h. gt-not-eq x t h.0 F.0 h.1) bs
          (each-zip (λ x. finite x ≡ true) (λ x. lt t x ≡ true) bs F.1 R.0)))

pub raised-times : (p e n : ℕ) (ks : List Float) (v : ValidKnots p n ks) → clamped_ends p n ks ≡ true
    → Each (λ t. multiplicity_of (raised_knots p e n ks (breaks_of p n ks)) t ≡ e + bit (is_full p ks t)) (breaks_of p n ks)
unfolding multiplicity_of raised_knots
raised-times p e n ks v c = each_map (λ t. IsBreak p n ks t × (count_in (λ x. eq x t) (break_knots p e ks bs) ≡ e + bit (is_full p ks t)))
    (λ t. count_below (λ j. eq (at (raised_knots p e n ks bs) j) t) (length (raised_knots p e n ks bs)) ≡ e + bit (is_full p ks t)) one bs
    (each-zip (IsBreak p n ks) (λ t. count_in (λ x. eq x t) (break_knots p e ks bs) ≡ e + bit (is_full p ks t)) bs (breaks-are p n ks v c)
    (break-times p e ks bs (each_map (IsBreak p n ks) (λ t. finite t ≡ true) (λ t b. b.number) bs (breaks-are p n ks v c)) (distinct p n ks v)))
  where
    bs : List Float
    bs = breaks_of p n ks

    one : (t : Float) → IsBreak p n ks t × (count_in (λ x. eq x t) (break_knots p e ks bs) ≡ e + bit (is_full p ks t))
        → count_below (λ j. eq (at (raised_knots p e n ks bs) j) t) (length (raised_knots p e n ks bs)) ≡ e + bit (is_full p ks t)
    one t h =
        let L = v.long in
        let b = h.0 in
        let k = h.1 in
        let N = v.finites n (omega arith) in
        let f : Float → Bool = λ x. eq x t in
        let lows : count_in f (starts p e n ks bs) ≡ (e + 1) * bit (eq (at ks p) t) = count-replicate f (e + 1) (at ks p) in
        let highs : count_in f (ends p e n ks bs) ≡ (e + 1) * bit (eq (at ks n) t) = count-replicate f (e + 1) (at ks n) in
        let x : bit (eq (at ks p) t) ≡ 0 = ap bit (lt-not-eq (at ks p) t b.low) in
        let y : bit (eq (at ks n) t) ≡ 0 = ap bit (gt-not-eq (at ks n) t N b.number b.high) in
        count-list f (raised_knots p e n ks bs) ∙ count-append f (starts p e n ks bs) (break_knots p e ks bs ++ ends p e n ks bs)
        ∙ ap (λ (m : ℕ). count_in f (starts p e n ks bs) + m) (count-append f (break_knots p e ks bs) (ends p e n ks bs)) ∙ rw (lows, highs, x, y) (omega arith)
