-- The places that refusals 4, 7, 8 and 10 say are the first that they are for.
-- Assumes nothing.
use Prim.Native.Nat.{ℕ, ◌+◌, ◌-◌, ◌*◌, ◌/◌, ◌%◌, ◌≤◌, ◌<◌}
use mathlib.Core.Bool.{Bool, true, false, not, ◌&&◌, ◌||◌, cond}
use mathlib.Core.Path.{◌≡◌, refl}
use mathlib.Core.Logic.{◌⊎◌, inl, inr}
use mathlib.Core.List.{List, []}
use native.Mathlib.Omega.{arith}
use lib.ListN.{length}
use lib.Dec.{leb, eqb}
use lib.Ieee.{Float, binary64, sub, lt, le}
use lib.Ieee.Scale.{finite}
use borrow.Author.Tests.{eqb-false, not-true, not-false}
use Rattle.doubles.specs.Run.{at}
use Rattle.doubles.proofs.TestedOrder.{le-gives, le-fails, ge-le, ge_trans, lt-ge-trans}
use Rattle.knots.specs.Below.{off_at}
use Rattle.knots.specs.Refusal.{numbered, refuse, placed, along, KnotsUnordered, KnotRepeated, PointNotFinite, WeightBad}
use Rattle.knots.specs.Knots.{finite_at, rises_at, apart_at, all_finite, in_order, ordered, apart, non_finite_at, unordered_at, repeated_at, order_refusal, knot_refusal}
use Rattle.knots.specs.Curve.{over_long, any_long, count_of, is_weight, is_weight_at, all_weights, bad_weight_at, control_refusal, formed_refusal, curve_refusal}
use Rattle.knots.specs.Span.{outside, domain_refusal, span_refusal}
use Rattle.knots.specs.Surface.{net_refusal, surface_refusal}
use Rattle.knots.specs.declared.refusal.Refusal.{Refusal}
use Rattle.knots.proofs.Below.{first_off, off-below, all-at, and_left, and_right, and-rest}
use Rattle.knots.proofs.Refusals.{row-either, row-both}
use Rattle.knots.proofs.Valid.{sorted-run}

-- ---- 4: the knot at i is the first that is not finite
pub record FirstNonFinite (ks : List Float) (i : ℕ) : Type 0 where
  pub within : i < length ks
  pub here : finite (at ks i) ≡ false
  pub before : (k : ℕ) → k < i → finite (at ks k) ≡ true

-- all are finite, and it is the first that exceeds the next
pub record FirstFall (ks : List Float) (i : ℕ) : Type 0 where
  pub finites : (k : ℕ) → k < length ks → finite (at ks k) ≡ true
  pub within : i + 1 < length ks
  pub here : lt (at ks (i + 1)) (at ks i) ≡ true
  pub before : (k : ℕ) → k < i → lt (at ks (k + 1)) (at ks k) ≡ false

non-finite-first : (xs : List Float) → all_finite xs ≡ false → FirstNonFinite xs (non_finite_at xs)
unfolding all_finite
non-finite-first xs h = let r = first_off (finite_at xs) (length xs) h in record { within = r.0; here = r.1; before = r.2 }

fall-first : (xs : List Float) → all_finite xs ≡ true → in_order xs ≡ false → FirstFall xs (off_at (rises_at xs) (length xs - 1))
unfolding all_finite in_order
fall-first xs f h =
    let r = first_off (rises_at xs) (length xs - 1) h in
    record {
      finites = all-at (finite_at xs) (length xs) f;
      within = omega (arith, r.0);
      here = not-false _ r.1;
      before = λ k l. not-true _ (r.2 k l);
    }

pub unordered-first : (ks : List Float) → ordered ks ≡ false → FirstNonFinite ks (unordered_at ks) ⊎ FirstFall ks (unordered_at ks)
unfolding ordered unordered_at
unordered-first ks h = go (all_finite ks) refl
  where
    go : (t : Bool) → all_finite ks ≡ t → FirstNonFinite ks (unordered_at ks) ⊎ FirstFall ks (unordered_at ks)
    go true e = rw e (inr (fall-first ks e (and-rest (all_finite ks) (in_order ks) e h)))
    go false e = rw e (inl (non-finite-first ks e))

-- ---- 7: the p + 2 knots from i on are equal as numbers, the knot before them is below, and no p + 2 knots that start before are equal
pub record FirstRepeated (p : ℕ) (ks : List Float) (i : ℕ) : Type 0 where
  pub within : i + (p + 1) < length ks
  pub equal : (k : ℕ) → i ≤ k → k ≤ i + (p + 1) → (le (at ks i) (at ks k) ≡ true) × (le (at ks k) (at ks i) ≡ true)
  pub front : (k : ℕ) → k + 1 ≡ i → lt (at ks k) (at ks i) ≡ true
  pub before : (k : ℕ) → k < i → lt (at ks k) (at ks (k + (p + 1))) ≡ true

pub repeated-first : (p : ℕ) (ks : List Float) → ordered ks ≡ true → apart (p + 1) ks ≡ false → FirstRepeated p ks (repeated_at (p + 1) ks)
unfolding ordered all_finite in_order apart repeated_at
repeated-first p ks o h = record { within = within; equal = equal; front = front; before = before }
  where
    i : ℕ
    i = off_at (apart_at (p + 1) ks) (length ks - (p + 1))

    finites : (k : ℕ) → k < length ks → finite (at ks k) ≡ true
    finites = all-at (finite_at ks) (length ks) (and_left (all_finite ks) (in_order ks) o)

    sorted : (j k : ℕ) → j ≤ k → k < length ks → lt (at ks k) (at ks j) ≡ false
    sorted = sorted-run ks finites (λ k l. not-true _ (all-at (rises_at ks) (length ks - 1) (and_right (all_finite ks) (in_order ks) o) k (omega arith)))

    first : (i < length ks - (p + 1)) × (not (le (at ks (i + (p + 1))) (at ks i)) ≡ false) × ((k : ℕ) → k < i → not (le (at ks (k + (p + 1))) (at ks k)) ≡ true)
    first = first_off (apart_at (p + 1) ks) (length ks - (p + 1)) h

    within : i + (p + 1) < length ks
    within = omega (arith, first.0)

    equal : (k : ℕ) → i ≤ k → k ≤ i + (p + 1) → (le (at ks i) (at ks k) ≡ true) × (le (at ks k) (at ks i) ≡ true)
    equal k a b =
        let w = within in
        let F = finites i (omega arith) in
        let K = finites k (omega arith) in
        let E = finites (i + (p + 1)) w in
        let last = le-gives (at ks (i + (p + 1))) (at ks i) E F (not-false _ first.1) in
        (ge-le (at ks i) (at ks k) F K (sorted i k a (omega arith)), ge-le (at ks k) (at ks i) K F (ge_trans (at ks i) (at ks (i + (p + 1))) (at ks k) E last (sorted k (i + (p + 1)) b w)))

    before : (k : ℕ) → k < i → lt (at ks k) (at ks (k + (p + 1))) ≡ true
    before k l =
        let w = within in
        le-fails (at ks (k + (p + 1))) (at ks k) (finites (k + (p + 1)) (omega arith)) (finites k (omega arith)) (not-true _ (first.2 k l))

    front : (k : ℕ) → k + 1 ≡ i → lt (at ks k) (at ks i) ≡ true
    front k e =
        let w = within in
        let F = finites i (omega arith) in
        let K = finites (k + (p + 1)) (omega arith) in
        lt-ge-trans (at ks k) (at ks (k + (p + 1))) (at ks i) F (before k (omega arith)) (le-gives (at ks (k + (p + 1))) (at ks i) K F (equal (k + (p + 1)) (omega arith) (omega arith)).1)

-- ---- 8: the point i has a coordinate that is not finite, and all coordinates of the points before are finite
pub record FirstPoint (ps : List Float) (i : ℕ) : Type 0 where
  pub coordinate : ℕ
  pub within : coordinate < length ps
  pub own : coordinate / 3 ≡ i
  pub here : finite (at ps coordinate) ≡ false
  pub before : (k : ℕ) → k / 3 < i → finite (at ps k) ≡ true

pub point-first : (ps : List Float) → all_finite ps ≡ false → FirstPoint ps (non_finite_at ps / 3)
point-first ps h =
    let r = non-finite-first ps h in
    record { coordinate = non_finite_at ps; within = r.within; own = refl; here = r.here; before = λ k l. r.before k (omega arith) }

-- ---- 10: the weight at i is the first that is none
pub record FirstWeight (ws : List Float) (i : ℕ) : Type 0 where
  pub within : i < length ws
  pub here : is_weight (at ws i) ≡ false
  pub before : (k : ℕ) → k < i → is_weight (at ws k) ≡ true

pub weight-first : (ws : List Float) → all_weights ws ≡ false → FirstWeight ws (bad_weight_at ws)
unfolding all_weights
weight-first ws h = let r = first_off (is_weight_at ws) (length ws) h in record { within = r.0; here = r.1; before = r.2 }

-- ---- of a curve's refusal: what is at the place, by its number
pub record PlaceFirst (p : ℕ) (ks ps ws : List Float) (r : Refusal) : Type 0 where
  pub knot : r.number ≡ 4 → FirstNonFinite ks r.place ⊎ FirstFall ks r.place
  pub run : r.number ≡ 7 → FirstRepeated p ks r.place
  pub point : r.number ≡ 8 → FirstPoint ps r.place
  pub weight : r.number ≡ 10 → FirstWeight ws r.place

module _ (p : ℕ) (ks ps ws : List Float) where
  -- no place is asked of another number
  no_place : (r : Refusal) → (r.number ≡ 4 → ⊥) → (r.number ≡ 7 → ⊥) → (r.number ≡ 8 → ⊥) → (r.number ≡ 10 → ⊥) → PlaceFirst p ks ps ws r
  no_place r a b c d = record { knot = λ e. absurd (a e); run = λ e. absurd (b e); point = λ e. absurd (c e); weight = λ e. absurd (d e) }

  other : (k : ℕ) → eqb k 4 ≡ false → eqb k 7 ≡ false → eqb k 8 ≡ false → eqb k 10 ≡ false → PlaceFirst p ks ps ws (numbered k)
  other k a b c d = no_place (numbered k) (eqb-false k 4 a) (eqb-false k 7 b) (eqb-false k 8 c) (eqb-false k 10 d)

  knots-place : (n : ℕ) → PlaceFirst p ks ps ws (knot_refusal p n ks)
  unfolding knot_refusal order_refusal
  knots-place n =
      row-either (PlaceFirst p ks ps ws) (eqb p 0) _ _ (λ _. other 1 refl refl refl refl)
      (λ _. row-either (PlaceFirst p ks ps ws) (leb n p) _ _ (λ _. other 2 refl refl refl refl)
      (λ _. row-either (PlaceFirst p ks ps ws) (not (eqb (length ks) (n + p + 1))) _ _ (λ _. other 3 refl refl refl refl)
      (λ _. row-either (PlaceFirst p ks ps ws) (not (ordered ks)) _ _ four
      (λ o. row-either (PlaceFirst p ks ps ws) (le (at ks n) (at ks p)) _ _ (λ _. other 5 refl refl refl refl)
      (λ _. row-either (PlaceFirst p ks ps ws) (not (finite (sub binary64 (at ks n) (at ks p)))) _ _ (λ _. other 6 refl refl refl refl)
      (λ _. row-either (PlaceFirst p ks ps ws) (not (apart (p + 1) ks)) _ _ (seven o) (λ _. other 0 refl refl refl refl)))))))
    where
      four : not (ordered ks) ≡ true → PlaceFirst p ks ps ws (placed (unordered_at ks) (refuse KnotsUnordered))
      four e = record { knot = λ _. unordered-first ks (not-true _ e); run = λ z. absurd (omega arith); point = λ z. absurd (omega arith); weight = λ z. absurd (omega arith) }

      seven : not (ordered ks) ≡ false → not (apart (p + 1) ks) ≡ true → PlaceFirst p ks ps ws (placed (repeated_at (p + 1) ks) (refuse KnotRepeated))
      seven o e = record {
        knot = λ z. absurd (omega arith);
        run = λ _. repeated-first p ks (not-false _ o) (not-true _ e);
        point = λ z. absurd (omega arith);
        weight = λ z. absurd (omega arith);
      }

  controls-place : (n : ℕ) (g : Bool) → PlaceFirst p ks ps ws (control_refusal n ps g ws)
  unfolding control_refusal
  controls-place n g =
      row-either (PlaceFirst p ks ps ws) (not (all_finite ps)) _ _ eight
      (λ _. row-either (PlaceFirst p ks ps ws) (g && not (eqb (length ws) n)) _ _ (λ _. other 9 refl refl refl refl)
      (λ _. row-either (PlaceFirst p ks ps ws) (g && not (all_weights ws)) _ _ ten (λ _. other 0 refl refl refl refl)))
    where
      eight : not (all_finite ps) ≡ true → PlaceFirst p ks ps ws (placed (non_finite_at ps / 3) (refuse PointNotFinite))
      eight e = record { knot = λ z. absurd (omega arith); run = λ z. absurd (omega arith); point = λ _. point-first ps (not-true _ e); weight = λ z. absurd (omega arith) }

      ten : (g && not (all_weights ws)) ≡ true → PlaceFirst p ks ps ws (placed (bad_weight_at ws) (refuse WeightBad))
      ten e = record {
        knot = λ z. absurd (omega arith);
        run = λ z. absurd (omega arith);
        point = λ z. absurd (omega arith);
        weight = λ _. weight-first ws (not-true _ (and_right g (not (all_weights ws)) e));
      }

  pub formed-place : (n : ℕ) (g : Bool) → PlaceFirst p ks ps ws (formed_refusal p n ks ps g ws)
  unfolding formed_refusal
  formed-place n g = row-either (PlaceFirst p ks ps ws) (eqb (knot_refusal p n ks).number 0) _ _ (λ _. controls-place n g) (λ _. knots-place n)

  pub place-first : (g : Bool) → PlaceFirst p ks ps ws (curve_refusal p ks ps g ws)
  unfolding curve_refusal
  place-first g =
      row-either (PlaceFirst p ks ps ws) (any_long ks ps g ws) _ _ (λ _. other 30 refl refl refl refl)
      (λ _. row-either (PlaceFirst p ks ps ws) (not (eqb (length ps % 3) 0)) _ _ (λ _. other 32 refl refl refl refl) (λ _. formed-place (count_of ps) g))

  -- of find_span's refusal
  pub span-place : (c : Bool) (n : ℕ) (u : Float) → PlaceFirst p ks ps ws (span_refusal c p n ks u)
  unfolding span_refusal domain_refusal
  span-place c n u =
      row-both (PlaceFirst p ks ps ws) (over_long true ks) _ _ (other 30 refl refl refl refl)
      (row-both (PlaceFirst p ks ps ws) (eqb (knot_refusal p n ks).number 0) _ _
      (row-both (PlaceFirst p ks ps ws) (not (finite u)) _ _ (other 12 refl refl refl refl)
      (row-both (PlaceFirst p ks ps ws) (not c && outside p n ks u) _ _ (other 43 refl refl refl refl) (other 0 refl refl refl refl))) (knots-place n))

-- ---- of a surface's refusal: along u and v the place is in that direction's knots; where there is no direction, neither 4 nor 7 is given
pub record SurfaceFirst (p q : ℕ) (us vs ps ws : List Float) (r : Refusal) : Type 0 where
  pub along-u : r.direction ≡ 0 → PlaceFirst p us ps ws r
  pub along-v : r.direction ≡ 1 → PlaceFirst q vs ps ws r
  pub along-none : r.direction ≡ 2 → PlaceFirst 0 [] ps ws r
  pub directed : r.direction ≤ 2

module _ (p q : ℕ) (us vs ps ws : List Float) where
  undirected : (r : Refusal) → r.direction ≡ 2 → PlaceFirst 0 [] ps ws r → SurfaceFirst p q us vs ps ws r
  undirected r e P = record { along-u = λ z. absurd (omega arith); along-v = λ z. absurd (omega arith); along-none = λ _. P; directed = omega arith }

  other-net : (k : ℕ) → eqb k 4 ≡ false → eqb k 7 ≡ false → eqb k 8 ≡ false → eqb k 10 ≡ false → SurfaceFirst p q us vs ps ws (numbered k)
  other-net k a b c d = undirected (numbered k) refl (other 0 [] ps ws k a b c d)

  net-place : (m n : ℕ) (g : Bool) → SurfaceFirst p q us vs ps ws (net_refusal us vs m n ps g ws)
  unfolding net_refusal
  net-place m n g =
      row-both (SurfaceFirst p q us vs ps ws) (over_long true us || any_long vs ps g ws) _ _ (other-net 30 refl refl refl refl)
      (row-both (SurfaceFirst p q us vs ps ws) (not (eqb (length ps % 3) 0)) _ _ (other-net 32 refl refl refl refl)
      (row-both (SurfaceFirst p q us vs ps ws) (not (eqb (count_of ps) (m * n))) _ _ (other-net 11 refl refl refl refl) (other-net 0 refl refl refl refl)))

  controls-none : (n : ℕ) (g : Bool) → (control_refusal n ps g ws).direction ≡ 2
  unfolding control_refusal
  controls-none n g =
      let None : Refusal → Type 0 = λ r. r.direction ≡ 2 in
      row-both None (not (all_finite ps)) _ _ refl
      (row-both None (g && not (eqb (length ws) n)) _ _ refl (row-both None (g && not (all_weights ws)) _ _ refl refl))

  -- a direction changes neither number nor place
  turned : (d : ℕ) (e : ℕ) (ks : List Float) (r : Refusal) → PlaceFirst e ks ps ws r → PlaceFirst e ks ps ws (along d r)
  turned d e ks r P = record { knot = P.knot; run = P.run; point = P.point; weight = P.weight }

  pub surface-place : (m n : ℕ) (g : Bool) → SurfaceFirst p q us vs ps ws (surface_refusal p q us vs m n ps g ws)
  unfolding surface_refusal
  surface-place m n g =
      row-both (SurfaceFirst p q us vs ps ws) (eqb (net_refusal us vs m n ps g ws).number 0) _ _
      (row-both (SurfaceFirst p q us vs ps ws) (eqb (knot_refusal p m us).number 0) _ _
      (row-both (SurfaceFirst p q us vs ps ws) (eqb (knot_refusal q n vs).number 0) _ _
      (undirected (control_refusal (count_of ps) ps g ws) (controls-none (count_of ps) g) (controls-place 0 [] ps ws (count_of ps) g)) v) u) (net-place m n g)
    where
      u : SurfaceFirst p q us vs ps ws (along 0 (knot_refusal p m us))
      u = record { along-u = λ _. turned 0 p us _ (knots-place p us ps ws m); along-v = λ z. absurd (omega arith); along-none = λ z. absurd (omega arith); directed = omega arith }

      v : SurfaceFirst p q us vs ps ws (along 1 (knot_refusal q n vs))
      v = record { along-u = λ z. absurd (omega arith); along-v = λ _. turned 1 q vs _ (knots-place q vs ps ws n); along-none = λ z. absurd (omega arith); directed = omega arith }

-- ---- a place is within the run, or at its end
non-finite-below : (xs : List Float) → non_finite_at xs ≤ length xs
non-finite-below xs = off-below (finite_at xs) (length xs)

pub bad-below : (xs : List Float) → bad_weight_at xs ≤ length xs
bad-below xs = off-below (is_weight_at xs) (length xs)

pub unordered-below : (xs : List Float) → unordered_at xs ≤ length xs
unfolding unordered_at
unordered-below xs = go (all_finite xs)
  where
    go : (t : Bool) → cond t (off_at (rises_at xs) (length xs - 1)) (non_finite_at xs) ≤ length xs
    go true = omega (arith, off-below (rises_at xs) (length xs - 1))
    go false = non-finite-below xs
