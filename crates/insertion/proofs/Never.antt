-- 13 and 14 are never given where every knot of a list lies inside the domain and has room.
-- Assumes nothing.
use Prim.Native.Nat.{ℕ, ◌+◌, ◌/◌, ◌≤◌, ◌<◌}
use mathlib.Core.Bool.{Bool, true, false, not, cond}
use mathlib.Core.Path.{◌≡◌, refl, sym, ◌∙◌, ap, ap₂, subst}
use mathlib.Core.List.{List, [], ◌∷◌}
use native.Mathlib.Omega.{arith}
use borrow.Author.Tests.{le-ltb}
use lib.Ieee.{Float, eq}
use lib.Ieee.Scale.{finite}
use Rattle.doubles.specs.Run.{at}
use Rattle.knots.specs.Below.{all_below}
use Rattle.knots.specs.Refusal.{refuse, accepted, placed, or_else}
use Rattle.knots.specs.declared.refusal.Reason.TheVariants.{ControlBad, EditBad, PointNotFinite}
use Rattle.knots.specs.Knots.{all_finite, non_finite_at, ValidKnots}
use Rattle.knots.specs.Curve.{formed_refusal}
use Rattle.knots.specs.Span.{SpanAt, span_of}
use Rattle.knots.specs.declared.refusal.Refusal.{Refusal}
use Rattle.knots.proofs.Below.{and_left}
use Rattle.knots.proofs.Spans.{search-meets, span-is}
use Rattle.edits.specs.Control.{is_lifted, is_blended}
use Rattle.edits.specs.Counts.{bit, multiplicity_of}
use Rattle.insertion.specs.Insert.{more_knots, inside, spot_refusal, lifted, blended, more_points, more_weights, form_refusal, inserted_knots, inserted_points, inserted_weights, insert_refusal}
use Rattle.insertion.specs.Fold.{insert_all}
use Rattle.edits.specs.Outcome.{refuses}
use Rattle.insertion.proofs.Grown.{grown-valid, controls-left}
use Rattle.insertion.proofs.InsertionParts.{points-left}
use Rattle.insertion.proofs.OneInsertion.{spot-open}
use Rattle.insertion.proofs.Folds.{inserted-valid}
use Rattle.insertion.proofs.KnotCounts.{eq_self}
use Rattle.insertion.proofs.ListResult.{AllInside, count_in, each_map, by_number, others, one-front, one-back, one-counts}

-- ---- what is refused once a knot's place is found: 8, 19, 20
pub record Late (r : Refusal) : Type 0 where
  pub some : 8 ≤ r.number
  pub gap : 8 < r.number → 19 ≤ r.number
  pub last : r.number ≤ 20

module _ (r : Refusal) (l : Late r) where
  pub late-some : r.number ≡ 0 → ⊥
  late-some e = omega (arith, l.some)

  pub late-not : (m : ℕ) → 8 < m → m < 19 → r.number ≡ m → ⊥
  late-not m a b e = omega (arith, l.gap (omega arith))

late_is : (m : ℕ) → 8 ≤ m → (8 < m → 19 ≤ m) → m ≤ 20 → (r : Refusal) → r.number ≡ m → Late r
late_is m a b c r e = record { some = omega arith; gap = λ l. omega (arith, b (omega arith)); last = omega arith }

late-formed : (a b c : Bool) (i : ℕ) (y r : Refusal) → (b ≡ true → cond (not c) (placed i (refuse PointNotFinite)) accepted ≡ y)
    → r ≡ cond (not a) (refuse ControlBad) (cond (not b) (refuse EditBad) y) → (r.number ≡ 0 → ⊥) → Late r
late-formed false b c i y r k e h = late_is 19 (omega arith) (λ l. omega arith) (omega arith) r (ap (λ (x : Refusal). x.number) e)
late-formed true false c i y r k e h = late_is 20 (omega arith) (λ l. omega arith) (omega arith) r (ap (λ (x : Refusal). x.number) e)
late-formed true true false i y r k e h = late_is 8 (omega arith) (λ l. omega arith) (omega arith) r (ap (λ (x : Refusal). x.number) (e ∙ sym (k refl)))
late-formed true true true i y r k e h = absurd (h (ap (λ (x : Refusal). x.number) (e ∙ sym (k refl))))

pub inside-finite : (lo hi t : Float) → inside lo hi t ≡ true → finite t ≡ true
unfolding inside
inside-finite lo hi t h = and_left (finite t) _ h

-- one knot, inside the domain and with room
module _ (p n : ℕ) (ks ps : List Float) (g : Bool) (ws : List Float) (t : Float) (v : ValidKnots p n ks) (I : inside (at ks p) (at ks n) t ≡ true) (M : multiplicity_of ks t ≤ p) where
  spot-none : spot_refusal (at ks p) (at ks n) t p (multiplicity_of ks t) ≡ accepted
  unfolding spot_refusal
  spot-none = simp (I, le-ltb p (multiplicity_of ks t) M)

  valid-next : ValidKnots p (n + 1) (more_knots (span_of p n ks t) t ks)
  valid-next =
      let o = spot-open p n ks ps g ws t (multiplicity_of ks t) v (ap (λ (x : Refusal). x.number) spot-none) in
      let s = search-meets p n ks v t o.within.parameter o.within.low in
      let e = span-is p n ks v t _ o.within.parameter s in
      grown-valid p n ks v t o.within.parameter (span_of p n ks t) (subst (λ (k : ℕ). SpanAt p n ks t k) e s) o.low o.high M

  form-left : insert_refusal p n ks ps g ws t ≡ form_refusal p n (span_of p n ks t) (multiplicity_of ks t) t ks ps g ws
  unfolding insert_refusal
  form-left = ap (λ (r : Refusal). or_else r (form_refusal p n (span_of p n ks t) (multiplicity_of ks t) t ks ps g ws)) spot-none

  late-one : ((insert_refusal p n ks ps g ws t).number ≡ 0 → ⊥) → Late (insert_refusal p n ks ps g ws t)
  unfolding form_refusal more_weights
  late-one =
      let k = span_of p n ks t in
      let s = multiplicity_of ks t in
      let h = blended p n k s t ks ps g ws in
      let P = more_points p n k s t ks ps g ws in
      let W = more_weights p n k s t ks ps g ws in
      late-formed
      (all_below (λ i. is_lifted (lifted p n k s t ks ps g ws i)) n) (all_below (λ i. is_blended (h i)) (n + 1)) (all_finite P) (non_finite_at P / 3) (formed_refusal p (n + 1) (more_knots k t ks) P g W)
      (insert_refusal p n ks ps g ws t)
      (λ B. points-left (n + 1) P g h B ∙ controls-left p (n + 1) (more_knots k t ks) P g W valid-next) form-left

-- a list, every knot of it inside the domain, and with room for it
pub late : (p : ℕ) (g : Bool) (n : ℕ) (ks ps ws ts : List Float) (r : Refusal) → ValidKnots p n ks → AllInside p n ks ts
    → ((u : Float) → multiplicity_of ks u + count_in (λ x. eq x u) ts ≤ p + 1) → insert_all p g n ks ps ws ts ≡ refuses r → Late r
unfolding insert_all count_in multiplicity_of
late p g n ks ps ws [] r v I M e = let z : ◌≡◌ {A = ℕ} 0 1 = cc in absurd (omega arith)
late p g n ks ps ws (t ∷ ts) r v I M e =
    let R = insert_refusal p n ks ps g ws t in
    by_number R.number (λ b. cond b (others p g n ks ps ws t ts) (refuses R) ≡ refuses r → Late r)
    (λ z. late p g (n + 1) K (inserted_points p n ks ps g ws t) (inserted_weights p n ks ps g ws t) ts r (inserted-valid p n ks ps g ws t z) (moved z) (room z))
    (λ z h. let q : R ≡ r = cc in subst Late q (late-one p n ks ps g ws t v I.0 here z)) e
  where
    K : List Float
    K = inserted_knots p n ks ps g ws t

    moved : (insert_refusal p n ks ps g ws t).number ≡ 0 → AllInside p (n + 1) K ts
    moved z =
        let l = v.long in
        let a = one-front p n ks ps g ws t v z p (omega arith) in
        let b = one-back p n ks ps g ws t v z n (omega arith) (omega arith) in
        each_map (λ x. inside (at ks p) (at ks n) x ≡ true) (λ x. inside (at K p) (at K (n + 1)) x ≡ true) (λ x h. ap₂ (λ (i j : Float). inside i j x) a b ∙ h) ts I.1

    room : (insert_refusal p n ks ps g ws t).number ≡ 0 → (u : Float) → multiplicity_of K u + count_in (λ x. eq x u) ts ≤ p + 1
    room z u = omega (arith, M u, one-counts p n ks ps g ws t v z (λ x. eq x u))

    here : multiplicity_of ks t ≤ p
    here = omega (arith, M t, ap bit (eq_self t (inside-finite (at ks p) (at ks n) t I.0)))
