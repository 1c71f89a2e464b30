-- What is missing of each break for it to be full, and the extraction that inserts it.
-- Assumes nothing.
use Prim.Native.Nat.{ℕ, ◌+◌, ◌-◌, ◌*◌, ◌≤◌}
use mathlib.Core.Bool.{Bool, true, false}
use mathlib.Core.Path.{◌≡◌, refl, ◌∙◌, ap}
use mathlib.Core.List.{List, [], ◌∷◌}
use native.Mathlib.Omega.{arith}
use lib.ListN.{length, replicate, length-replicate, length-append}
use lib.Ieee.{Float, lt, eq}
use lib.Ieee.Scale.{finite}
use Rattle.doubles.specs.Run.{at}
use Rattle.knots.specs.Knots.{ValidKnots}
use Rattle.knots.specs.declared.refusal.Refusal.{Refusal}
use Rattle.edits.specs.Counts.{bit, multiplicity_of}
use Rattle.insertion.specs.Insert.{inside}
use Rattle.insertion.specs.Fold.{insert_all}
use Rattle.edits.specs.Outcome.{gives, refuses}
use Rattle.edits.specs.Start.{clamped_ends}
use Rattle.insertion.proofs.KnotCounts.{gt-not-eq, lt-not-eq, eq-finite, eq_self, eq-lt-left, multiplicity-most}
use Rattle.insertion.specs.Placed.{Each}
use Rattle.insertion.proofs.ListResult.{count_in, each_append, each-replicate, each_map, count-append, count-replicate, Made, made, made-multiplicity}
use Rattle.insertion.proofs.Never.{Late, late}
use Rattle.insertion.proofs.Repeated.{inside-by, room-more}
use Rattle.elevation.specs.Breaks.{breaks_of, missing_all}
use Rattle.elevation.proofs.Breaks.{Rising, each-zip, times_all, IsBreak, distinct, breaks-are, breaks-times}

-- ---- what is missing of each break of a list
pub missing-long : (p : ℕ) (ks bs : List Float) → Each (λ t. multiplicity_of ks t ≤ p + 1) bs → length (missing_all p ks bs) + times_all ks bs ≡ (p + 1) * length bs
unfolding missing_all times_all
missing-long p ks [] h = omega arith
missing-long p ks (t ∷ ts) h =
    let a = h.0 in
    omega (arith, missing-long p ks ts h.1, length-append (replicate (p + 1 - multiplicity_of ks t) t) (missing_all p ks ts), length-replicate (p + 1 - multiplicity_of ks t) t)

pub missing-each : (P : Float → Type 0) (p : ℕ) (ks bs : List Float) → Each P bs → Each P (missing_all p ks bs)
unfolding missing_all
missing-each P p ks [] h = tt
missing-each P p ks (t ∷ ts) h =
    each_append P (replicate (p + 1 - multiplicity_of ks t) t) (missing_all p ks ts)
    (each-replicate P (p + 1 - multiplicity_of ks t) t h.0) (missing-each P p ks ts h.1)

missing-count : (f : Float → Bool) (p : ℕ) (ks : List Float) (t : Float) (ts : List Float)
    → count_in f (missing_all p ks (t ∷ ts)) ≡ (p + 1 - multiplicity_of ks t) * bit (f t) + count_in f (missing_all p ks ts)
unfolding missing_all
missing-count f p ks t ts =
    count-append f (replicate (p + 1 - multiplicity_of ks t) t) (missing_all p ks ts)
    ∙ ap (λ (m : ℕ). m + count_in f (missing_all p ks ts)) (count-replicate f (p + 1 - multiplicity_of ks t) t)

pub count-none-in : (f : Float → Bool) (ts : List Float) → Each (λ t. f t ≡ false) ts → count_in f ts ≡ 0
unfolding count_in
count-none-in f [] h = refl
count-none-in f (t ∷ ts) h = let z : bit (f t) ≡ 0 = ap bit h.0 in omega (arith, count-none-in f ts h.1)

-- what equals a number equals none after it
none_after : (t u : Float) → finite t ≡ true → eq t u ≡ true → (p : ℕ) (ks ts : List Float) → Each (λ x. finite x ≡ true) ts → Each (λ x. lt t x ≡ true) ts
    → count_in (λ x. eq x u) (missing_all p ks ts) ≡ 0
none_after t u T e p ks ts F R =
    let U = eq-finite t u T e in
    count-none-in (λ x. eq x u) (missing_all p ks ts)
    (missing-each (λ x. eq x u ≡ false) p ks ts
    (each_map (λ x. (finite x ≡ true) × (lt t x ≡ true)) (λ x. eq x u ≡ false) (λ x h. gt-not-eq x u h.0 U (eq-lt-left t u T U e x h.0 h.1)) ts
    (each-zip (λ x. finite x ≡ true) (λ x. lt t x ≡ true) ts F R)))

module _ (p n : ℕ) (ks : List Float) (v : ValidKnots p n ks) where
  -- there is room for it, and with it each is full
  pub missing-room : (bs : List Float) → Each (λ t. finite t ≡ true) bs → Rising bs → (u : Float) → multiplicity_of ks u + count_in (λ x. eq x u) (missing_all p ks bs) ≤ p + 1
  missing-room [] F R u = omega (arith, multiplicity-most p n ks v u, count-none-in (λ x. eq x u) (missing_all p ks []) (missing-each (λ x. eq x u ≡ false) p ks [] tt))
  missing-room (t ∷ ts) F R u =
      let a = multiplicity-most p n ks v t in
      rw (missing-count (λ x. eq x u) p ks t ts)
      (room-more p n ks v t u F.0 (p + 1 - multiplicity_of ks t) (count_in (λ x. eq x u) (missing_all p ks ts)) (omega arith)
      (missing-room ts F.1 R.1 u) (λ e. none_after t u F.0 e p ks ts F.1 R.0))

  pub missing-full : (bs : List Float) → Each (λ t. finite t ≡ true) bs → Rising bs → Each (λ u. multiplicity_of ks u + count_in (λ x. eq x u) (missing_all p ks bs) ≡ p + 1) bs
  missing-full [] F R = tt
  missing-full (t ∷ ts) F R =
      let a = multiplicity-most p n ks v t in (
        rw (missing-count (λ x. eq x t) p ks t ts, eq_self t F.0, none_after t t F.0 (eq_self t F.0) p ks ts F.1 R.0) (omega arith),
        each_map (λ u. (lt t u ≡ true) × (multiplicity_of ks u + count_in (λ x. eq x u) (missing_all p ks ts) ≡ p + 1))
            (λ u. multiplicity_of ks u + count_in (λ x. eq x u) (missing_all p ks (t ∷ ts)) ≡ p + 1)
            (λ u h. let k = h.1 in rw (missing-count (λ x. eq x u) p ks t ts, lt-not-eq t u h.0) (omega arith)) ts
            (each-zip (λ u. lt t u ≡ true) (λ u. multiplicity_of ks u + count_in (λ x. eq x u) (missing_all p ks ts) ≡ p + 1) ts R.0 (missing-full ts F.1 R.1)),
      )

-- ---- the extraction
module _ (p n : ℕ) (ks : List Float) (v : ValidKnots p n ks) (c : clamped_ends p n ks ≡ true) where
  pub extracted-count : n + length (missing_all p ks (breaks_of p n ks)) ≡ (p + 1) * (length (breaks_of p n ks) + 1)
  extracted-count =
      let few = each_map (IsBreak p n ks) (λ t. multiplicity_of ks t ≤ p + 1) (λ t b. b.most) (breaks_of p n ks) (breaks-are p n ks v c) in
      omega (arith, breaks-times p n ks v c, missing-long p ks (breaks_of p n ks) few)

  -- every break made full
  breaks-finite : Each (λ t. finite t ≡ true) (breaks_of p n ks)
  breaks-finite = each_map (IsBreak p n ks) (λ t. finite t ≡ true) (λ t b. b.number) (breaks_of p n ks) (breaks-are p n ks v c)

  module _ (g : Bool) (ps ws : List Float) where
    pub extraction-late : (r : Refusal) → insert_all p g n ks ps ws (missing_all p ks (breaks_of p n ks)) ≡ refuses r → Late r
    extraction-late r =
        let L = v.long in
        let P = v.finites p (omega arith) in
        let N = v.finites n (omega arith) in
        late p g n ks ps ws (missing_all p ks (breaks_of p n ks)) r v
        (missing-each (λ t. inside (at ks p) (at ks n) t ≡ true) p ks (breaks_of p n ks)
        (each_map (IsBreak p n ks) (λ t. inside (at ks p) (at ks n) t ≡ true) (λ t b. inside-by (at ks p) (at ks n) t P N b.number b.low b.high) (breaks_of p n ks) (breaks-are p n ks v c)))
        (missing-room p n ks v (breaks_of p n ks) breaks-finite (distinct p n ks v))

    module _ (ks' ps' ws' : List Float) (e : insert_all p g n ks ps ws (missing_all p ks (breaks_of p n ks)) ≡ gives ks' ps' ws') where
      pub extraction : Made p g n ks ps ws (missing_all p ks (breaks_of p n ks)) ks' ps' ws'
      extraction = made p g n ks ps ws (missing_all p ks (breaks_of p n ks)) ks' ps' ws' v e

      pub extraction-full : Each (λ t. multiplicity_of ks' t ≡ p + 1) (breaks_of p n ks)
      extraction-full =
          each_map (λ t. multiplicity_of ks t + count_in (λ x. eq x t) (missing_all p ks (breaks_of p n ks)) ≡ p + 1) (λ t. multiplicity_of ks' t ≡ p + 1)
          (λ t h. made-multiplicity p g n ks ps ws (missing_all p ks (breaks_of p n ks)) ks' ps' ws' v extraction t ∙ h) (breaks_of p n ks)
          (missing-full p n ks v (breaks_of p n ks) breaks-finite (distinct p n ks v))
