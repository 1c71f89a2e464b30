-- The operations on ends are those on intervals, to the bit. Assumes nothing.
use mathlib.Core.Path.{◌≡◌, refl, sym, ap, ap₂, ◌∙◌, subst}
use mathlib.Core.Bool.{Bool, true, false, ◌||◌, beq, cond}
use mathlib.Core.Logic.{inl, inr}
use Prim.Native.Nat.{ℕ, zero, suc, ◌*◌}
use native.Mathlib.Omega.{arith}
use lib.Dec.{T, eqb-suc-zero}
use lib.Ieee.{Float, nan, inf, fin, binary64, up, down, fits, is_nan, lt, eq, ne, level, neg, add, mul, of_bits, to_bits}
use lib.Ieee.Bits.{is_false}
use lib.Ieee.Fits.{add-fits, mul-fits, neg-fits, cond-fits, and_l, and_r}
use Rattle.doubles.specs.Value.{Number, ◌⊑◌}
use Rattle.doubles.specs.Neighbour.{next_up, next_down, up_from, down_from, least4, greatest4}
use Rattle.doubles.proofs.TestFacts.{T_of, Tn-of, neg-neg, yes_or_no}
use Rattle.doubles.proofs.Order.{⊑_trans, lt_irrefl, lt-asym}
use Rattle.doubles.proofs.Neighbour.{up_least}
use Rattle.doubles.proofs.Products.{mul-neg, number-neg}
use Rattle.doubles.proofs.Opposite.{mul-swap}
use Rattle.doubles.proofs.Extremes.{Four, Best, Over, least}
use Rattle.doubles.proofs.Extremes as E
use Rattle.doubles.proofs.Symmetric.{up_same, Peak, peak, peaks-up, peak-swapped, swapped, neg-least}
use Rattle.doubles.proofs.Rising.{above-number}
use Rattle.doubles.proofs.Sums.{mul-rounded, rounded-number}
use Rattle.interval.specs.Ops.{entire, checked_of, some_nan, add_of, mul_of}
use Rattle.interval.specs.declared.Interval.{Interval}
use Rattle.ends.specs.Ends.{greatest, step_of, ends_of, sum_of, most_of, is_part, factor_of, is_factor, times_of}
use Rattle.interval.proofs.Facts.{none-nan}
use Rattle.ends.specs.Good.{Held, Good}
use Rattle.ends.proofs.Good.{above-neg, stepped, opposites, under-number, low-number, high-number, sum_is}

-- ---- a step that asks nothing is the step of a number
top-next : next_up greatest ≡ inf false
unfolding up_from to_bits of_bits
top-next = refl

top-held : Held greatest
unfolding fits
top-held = tt

over-top : (x : Float) → Held x → Number x → greatest ⊑ x → next_up greatest ≡ next_up x
over-top nan h n l = absurd (unfold is_nan in n)
over-top (inf true) h n l = absurd (unfold lt in l)
over-top (inf false) h n l = top-next ∙ unfold up_from in refl
over-top (fin s m e) h n l =
    up_same binary64 greatest (fin s m e) (unfold is_nan in tt) n l
    (elim (yes_or_no (lt greatest (fin s m e))) [
      | inl t ↦ absurd (up_least binary64 greatest (fin s m e) top-held h t (rw top-next (unfold lt in tt)))
      | inr t ↦ t
    ])

pub step_is : (x : Float) → Held x → Number x → step_of x ≡ next_up x
unfolding step_of
step_is x h n = go (lt x greatest) refl
  where
    go : (b : Bool) → lt x greatest ≡ b → next_up (cond b x greatest) ≡ next_up x
    go true e = refl
    go false e = over-top x h n (Tn-of _ e)

-- the opposite of a step down is a step up from the opposite
down-turned : (x : Float) → neg (next_down x) ≡ next_up (neg x)
unfolding down_from
down-turned x = neg-neg (next_up (neg x))

-- ---- sums
module _ (a b : Interval) (A : Good a) (B : Good b) where
  under_same : step_of (add binary64 (neg a.lo) (neg b.lo)) ≡ neg (next_down (add binary64 a.lo b.lo))
  under_same =
      let x = add binary64 (neg a.lo) (neg b.lo) in
      let l = add binary64 a.lo b.lo in
      let o = opposites a b A B in
      step_is x (add-fits binary64 _ _) (under-number a b A B) ∙ up_same binary64 x (neg l) (under-number a b A B) (number-neg l (low-number a b A B)) o.under o.over ∙ sym (down-turned l)

  pub sum_same : sum_of (ends_of a) (ends_of b) ≡ ends_of (add_of a b)
  unfolding sum_of
  sum_same = rw (sum_is a b A B, under_same, step_is (add binary64 a.hi b.hi) (add-fits binary64 _ _) (high-number a b A B))

-- ---- the larger of two
record Larger (p q a : Float) : Type 0 where
  number : Number a
  first : p ⊑ a
  second : q ⊑ a
  least : (b : Float) → p ⊑ b → q ⊑ b → a ⊑ b

larger-of : (p q : Float) → Number p → Number q → Larger p q (most_of p q)
larger-of p q n m = go (lt p q) refl
  where
    go : (c : Bool) → lt p q ≡ c → Larger p q (cond c q p)
    go true e = record { number = m; first = lt-asym p q (T_of _ e); second = lt_irrefl q; least = λ b x y. y }
    go false e = record { number = n; first = lt_irrefl p; second = Tn-of _ e; least = λ b x y. x }

-- the larger of two larger ones is the greatest of four
larger-peak : (p q r s : Float) → Four Number p q r s → Peak p q r s (most_of (most_of p q) (most_of r s))
larger-peak p q r s n =
    let A = larger-of p q n.one n.two in
    let B = larger-of r s n.three n.four in
    let a = most_of p q in
    let b = most_of r s in
    let C = larger-of a b A.number B.number in
    record {
      number = C.number;
      each = record {
        one = ⊑_trans p a (most_of a b) A.number A.first C.first;
        two = ⊑_trans q a (most_of a b) A.number A.second C.first;
        three = ⊑_trans r b (most_of a b) B.number B.first C.second;
        four = ⊑_trans s b (most_of a b) B.number B.second C.second;
      };
      least = λ m z. C.least m (A.least m z.one z.two) (B.least m z.three z.four);
    }

-- ---- products
-- a part of a factor makes a number of a number
zero-level : (s : Bool) (u d : ℕ) → level s (0 * u * 1) false (0 * 1 * d) ≡ true
zero-level s u d =
    let k : 0 * u * 1 ≡ 0 = omega arith in
    let l : 0 * 1 * d ≡ 0 = omega arith in
    rw (k, l) (go s)
  where
    go : (s : Bool) → (beq s false || true) ≡ true
    go true = refl
    go false = refl

part-number : (e c : Float) → T (is_part e) → Number c → Number (mul binary64 e c)
part-number nan c t n = absurd t
part-number (inf s) c t n = absurd t
part-number (fin s m e) nan t n = absurd (unfold is_nan in n)
part-number (fin s zero e) (inf u) t n = absurd (unfold ne eq in rw (zero-level s (up e) (down e)) at t)
part-number (fin s (suc m) e) (inf u) t n = unfold mul is_nan in rw (eqb-suc-zero m) tt
part-number (fin s m e) (fin u k d) t n = rounded-number binary64 (mul-rounded binary64 s m e u k d)

second-turned : (x y : Float) → mul binary64 x (neg y) ≡ neg (mul binary64 x y)
second-turned x y = mul-swap binary64 x (neg y) ∙ mul-neg binary64 y x ∙ ap neg (mul-swap binary64 y x)

pub lo-number : (v : Interval) → Good v → Number v.lo
lo-number v G = subst Number (neg-neg v.lo) (number-neg (neg v.lo) (above-number (neg v.lo) (above-neg v.lo G.low)))

pub hi-number : (v : Interval) → Good v → Number v.hi
hi-number v G = above-number v.hi G.high

-- the product by the ends
module _ (s v : Interval) (G : Good v) (t : T (is_factor (factor_of s))) where
  abbrev p : Float
  p = mul binary64 s.lo v.lo

  abbrev q : Float
  q = mul binary64 s.lo v.hi

  abbrev r : Float
  r = mul binary64 s.hi v.lo

  abbrev u : Float
  u = mul binary64 s.hi v.hi

  four-held : Four Held p q r u
  four-held = record { one = mul-fits binary64 _ _; two = mul-fits binary64 _ _; three = mul-fits binary64 _ _; four = mul-fits binary64 _ _ }

  four-numbers : Four Number p q r u
  four-numbers =
      let a = and_l (is_part s.lo) (is_part s.hi) (unfold is_factor in t) in
      let b = and_r (is_part s.lo) (is_part s.hi) (unfold is_factor in t) in
      let l = lo-number v G in
      let h = hi-number v G in
      record { one = part-number s.lo v.lo a l; two = part-number s.lo v.hi a h; three = part-number s.hi v.lo b l; four = part-number s.hi v.hi b h }

  none : some_nan p q r u ≡ false
  unfolding some_nan
  none = let n = four-numbers in rw (is_false (is_nan p) n.one, is_false (is_nan q) n.two, is_false (is_nan r) n.three, is_false (is_nan u) n.four)

  product_is : mul_of s v ≡ record { lo = next_down (least4 p q r u); hi = next_up (greatest4 p q r u) }
  unfolding mul_of
  product_is =
      let l = least binary64 p q r u four-held four-numbers in
      let g = E.greatest binary64 p q r u four-held four-numbers in
      rw none (stepped (least4 p q r u) (greatest4 p q r u) l.held g.held l.number g.number)

  neg-held : Four Held (neg p) (neg q) (neg r) (neg u)
  neg-held = let h = four-held in record { one = neg-fits binary64 p h.one; two = neg-fits binary64 q h.two; three = neg-fits binary64 r h.three; four = neg-fits binary64 u h.four }

  neg-numbers : Four Number (neg p) (neg q) (neg r) (neg u)
  neg-numbers = let n = four-numbers in record { one = number-neg p n.one; two = number-neg q n.two; three = number-neg r n.three; four = number-neg u n.four }

  -- one step from the greatest of four, found in pairs
  peak-step : (a b c d : Float) → Four Held a b c d → Four Number a b c d → step_of (most_of (most_of a b) (most_of c d)) ≡ next_up (greatest4 a b c d)
  peak-step a b c d h n =
      let k = larger-peak a b c d n in
      let f : (x y : Float) → Held x → Held y → Held (most_of x y) = λ x y hx hy. cond-fits binary64 (lt x y) y x hy hx in
      step_is _ (f _ _ (f a b h.one h.two) (f c d h.three h.four)) k.number ∙ peaks-up binary64 a b c d _ (greatest4 a b c d) k (peak binary64 a b c d h n)

  pub times-same : times_of (factor_of s) (ends_of v) ≡ ends_of (mul_of s v)
  unfolding times_of
  times-same =
      rw (
        second-turned s.lo v.lo,
        second-turned s.hi v.lo,
        neg-neg p,
        neg-neg r,
        product_is,
        peak-step p q r u four-held four-numbers,
        peak-step (neg p) (neg q) (neg r) (neg u) neg-held neg-numbers,
        down-turned (least4 p q r u),
        neg-least p q r u,
      )

-- ---- the operands of a product exchanged
abbrev box_of : Float → Float → Float → Float → Interval
box_of p q r s = cond (some_nan p q r s) entire (checked_of (next_down (least4 p q r s)) (next_up (greatest4 p q r s)))

module _ (p q r s : Float) (h : Four Held p q r s) where
  same_tests : some_nan p r q s ≡ some_nan p q r s
  unfolding some_nan
  same_tests = go (is_nan p) (is_nan q) (is_nan r) (is_nan s)
    where
      go : (a b c d : Bool) → (a || c || b || d) ≡ (a || b || c || d)
      go true b c d = refl
      go false true true d = refl
      go false true false d = refl
      go false false true d = refl
      go false false false d = refl

  module _ (n : Four Number p q r s) where
    same-top : next_up (greatest4 p r q s) ≡ next_up (greatest4 p q r s)
    same-top = peaks-up binary64 p q r s _ _ (peak-swapped p q r s _ (peak binary64 p r q s (swapped Held p r q s h) (swapped Number p r q s n))) (peak binary64 p q r s h n)

    negs : Four Held (neg p) (neg q) (neg r) (neg s)
    negs = record { one = neg-fits binary64 p h.one; two = neg-fits binary64 q h.two; three = neg-fits binary64 r h.three; four = neg-fits binary64 s h.four }

    neg-ns : Four Number (neg p) (neg q) (neg r) (neg s)
    neg-ns = record { one = number-neg p n.one; two = number-neg q n.two; three = number-neg r n.three; four = number-neg s n.four }

module _ (p q r s : Float) (h : Four Held p q r s) where
  same-bottom : Four Number p q r s → next_down (least4 p r q s) ≡ next_down (least4 p q r s)
  unfolding down_from
  same-bottom n = ap neg (ap next_up (neg-least p r q s) ∙ same-top (neg p) (neg q) (neg r) (neg s) (negs p q r s h n) (neg-ns p q r s h n) ∙ sym (ap next_up (neg-least p q r s)))

  box-swapped : box_of p r q s ≡ box_of p q r s
  box-swapped = rw (same_tests p q r s h) (go (some_nan p q r s) refl)
    where
      go : (b : Bool) → some_nan p q r s ≡ b
          → cond b entire (checked_of (next_down (least4 p r q s)) (next_up (greatest4 p r q s))) ≡ cond b entire (checked_of (next_down (least4 p q r s)) (next_up (greatest4 p q r s)))
      go true e = refl
      go false e =
          let z = none-nan p q r s e in
          let n : Four Number p q r s = record { one = Tn-of _ z.one; two = Tn-of _ z.two; three = Tn-of _ z.three; four = Tn-of _ z.four } in
          ap₂ checked_of (same-bottom n) (same-top p q r s h n)

pub exchanged : (a b : Interval) → mul_of b a ≡ mul_of a b
unfolding mul_of
exchanged a b =
    rw (mul-swap binary64 b.lo a.lo, mul-swap binary64 b.lo a.hi, mul-swap binary64 b.hi a.lo, mul-swap binary64 b.hi a.hi)
    (box-swapped _ _ _ _ (record { one = mul-fits binary64 _ _; two = mul-fits binary64 _ _; three = mul-fits binary64 _ _; four = mul-fits binary64 _ _ }))
