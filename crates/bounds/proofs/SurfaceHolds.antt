-- THE THEOREM for surfaces. Where the answer is bounds, they hold the exact point and its two derivatives at every pair of parameters of the ranges. Assumes nothing.
use mathlib.Core.Path.{◌≡◌, refl, sym, subst}
use mathlib.Core.Bool.{Bool, true, false, cond}
use mathlib.Core.Logic.{◌≢◌}
use mathlib.Core.List.{List}
use Prim.Native.Nat.{ℕ, suc, ◌+◌, ◌-◌, ◌*◌, ◌≤◌, ◌<◌}
use native.Mathlib.Numerals.{add-one}
use native.Mathlib.Omega.{arith}
use lib.Dec.{T}
use lib.Ieee.{Float, le}
use lib.Ieee.Scale.{finite}
use Rattle.doubles.specs.Run.{val_at}
use Rattle.doubles.specs.Value.{val}
use Rattle.exact.proofs.Field.{≤_trans, <-≤-trans, pos-ne}
use Rattle.exact.proofs.Jets.{dwork}
use Rattle.exact.proofs.Source.{work}
use Rattle.exact.proofs.Surface.{net, net-du, net-dv, exact₂-net, exact₂-du, exact₂-dv, weight₂-pos, weight₂-low, weight₂-le-1}
use Rattle.exact.specs.Rational.{ℚ, ◌-q◌, ◌*q◌, ◌/q◌, inv, q0, q1, ◌≤q◌, ◌<q◌}
use Rattle.exact.specs.Surface.{whole₂}
use Rattle.interval.proofs.Contain.{Formed}
use Rattle.interval.specs.Inside.{Inside}
use Rattle.interval.specs.Ops.{point_of, new_of, reciprocal_of}
use Rattle.interval.specs.declared.Interval.{Interval}
use Rattle.jets.specs.declared.jet.Jet.{Jet}
use Rattle.jets.specs.declared.net.Control.{Control}
use Rattle.bounds.specs.declared.start.Weights.{Weights}
use Rattle.jets.specs.Net.{mix_jet, mix_of, net_of, refusal_levels, last_by, deboor_of, refused_by, net_control, refusal_up, filled_of}
use Rattle.bounds.specs.Start.{range_of, start_at, row_by, row_of}
use Rattle.runs.specs.Point as P
use Rattle.jets.specs.Cartesian.{cartesian_of, net_by}
use Rattle.ranges.specs.Range.{span_over}
use Rattle.runs.specs.Weight.{weight_at}
use Rattle.bounds.specs.Curve.{unless}
use Rattle.jets.specs.Jet.{parameter_of, second_of}
use Rattle.jets.specs.Three.{Three}
use Rattle.bounds.specs.Holds.{grid, at-uv, SurfaceHolds}
use Rattle.bounds.specs.Surface.{ranges_refusal, max_rows, min_rows, row_at, ranges_are, weights_by, spans_bound, bounded_by, surface_of}
use Rattle.jets.proofs.JetIn.{JetIn, param_in, second-in}
use Rattle.jets.proofs.NetIn.{Given, levels-given, none, along, across, nowhere, net-in, last-none, last-given, up-0, up-given}
use Rattle.bounds.proofs.WeightIn.{Cut, Cuts, range-in, scale_in, bound-in, ControlIn, point-finite, control-in}
use Rattle.jets.proofs.CartesianIn.{FinitePoint, Boxes, refuse-in, over, cartesian-in, boxes-eq, three-eq}
use Rattle.bounds.proofs.Boxes.{X, Y, Z, boxed, unless-in}
use Rattle.bounds.proofs.NetWeight.{Largest₂, Least₂, largest₂, least₂}
use Rattle.bounds.proofs.SpansIn.{below-product, ranges-valid}
use Rattle.ranges.proofs.SpanIn.{SpanValid, InSpan, in-span, heavy-valid, heavy-pos}
use Rattle.runs.specs.Fraction.{weight_value, coordinate_value}
use Rattle.bounds.specs.Answer.{bounded_of}
use Rattle.knots.specs.Surface.{surface_refusal, ValidSurface}
use Rattle.knots.proofs.Surfaces.{valid-surface}
use Rattle.std.specs.Prelude.{Some, None, Result, Ok, Err}
use Rattle.interval.specs.declared.DivideError.{DivideError}
use Rattle.interval.specs.declared.DivideError.TheVariants.{HoldsZero, Unbounded}
use Rattle.jets.specs.declared.cartesian.Bounds.{Bounds}
use Rattle.knots.specs.declared.refusal.Refusal.{Refusal}

-- ---- on two spans

module _ (p q us vs : ℕ) (uk vk : List Float) (nu nv : ℕ) (ps ws : List Float) (r : Bool) (ulo uhi vlo vhi : Float) (Va : ValidSurface p q uk vk nu nv ps r ws)
    (Su : SpanValid p nu uk ulo uhi us) (Sv : SpanValid q nv vk vlo vhi vs) (u v : ℚ) (u-from : val ulo ≤q u) (u-upto : u ≤q val uhi) (v-from : val vlo ≤q v) (v-upto : v ≤q val vhi) where
  Iu : InSpan p nu uk us u
  Iu = in-span p nu uk ulo uhi us Va.u Su u u-from u-upto

  Iv : InSpan q nv vk vs v
  Iv = in-span q nv vk vlo vhi vs Va.v Sv v v-from v-upto

  heavy : (i : ℕ) → i < nu * nv → T (finite (weight_at r ws i))
  heavy i l = (heavy-valid (nu * nv) ps r ws Va.controls i l).held

  positive : (i : ℕ) → i < nu * nv → q0 <q val (weight_at r ws i)
  positive i l = heavy-pos (heavy-valid (nu * nv) ps r ws Va.controls i l)

  here : (m k : ℕ) → m ≤ p → k ≤ q → (us - p + m) * nv + (vs - q + k) < nu * nv
  here m k h l =
      let a = Iu.base in
      let b = Iu.fits in
      let c = Iv.base in
      let d = Iv.fits in
      (below-product (us - p + m) (vs - q + k) nu nv (omega arith) (omega arith))

  first-here : (us - p) * nv + (vs - q) < nu * nv
  first-here = below-product (us - p) (vs - q) nu nv (omega (arith, Iu.base, Iu.fits)) (omega (arith, Iv.base, Iv.fits))

  abbrev w : ℕ → ℕ → Float
  w m k = weight_at r ws ((us - p + m) * nv + (vs - q) + k)

  same_place : (m k : ℕ) → (us - p + m) * nv + (vs - q) + k ≡ (us - p + m) * nv + (vs - q + k)
  same_place m k = omega arith

  here' : (m k : ℕ) → m ≤ p → k ≤ q → (us - p + m) * nv + (vs - q) + k < nu * nv
  here' m k h l = subst (λ (i : ℕ). i < nu * nv) (sym (same_place m k)) (here m k h l)

  abbrev w₂ : ℕ → ℕ → ℚ
  w₂ = grid nv (weight_value r ws)

  least-is : Least₂ w (suc q) (suc p) (min_rows w (suc q) (suc p))
  least-is = least₂ w q p (λ i j l h. heavy _ (here' i j (omega arith) (omega arith))) (λ i j l h. positive _ (here' i j (omega arith) (omega arith)))

  most-is : Largest₂ w (suc q) (suc p) (max_rows w (suc q) (suc p))
  most-is = largest₂ w (suc q) (suc p) (λ i j l h. heavy _ (here' i j (omega arith) (omega arith)))

  abbrev a : ℚ
  a = val (min_rows w (suc q) (suc p))

  abbrev σ : ℚ
  σ = val (max_rows w (suc q) (suc p))

  lows : (m k : ℕ) → m ≤ p → k ≤ q → a ≤q w₂ (us - p + m) (vs - q + k)
  lows m k h l = subst (λ (i : ℕ). a ≤q weight_value r ws i) (same_place m k) (least-is.all m k (omega arith) (omega arith))

  highs : (m k : ℕ) → m ≤ p → k ≤ q → w₂ (us - p + m) (vs - q + k) ≤q σ
  highs m k h l = subst (λ (i : ℕ). weight_value r ws i ≤q σ) (same_place m k) (most-is.all m k (omega arith) (omega arith))

  σ-pos : q0 <q σ
  σ-pos = <-≤-trans least-is.positive (≤_trans (lows 0 0 (omega arith) (omega arith)) (highs 0 0 (omega arith) (omega arith)))

  finite-at : (i : ℕ) → i < nu * nv → FinitePoint (P.point_of ps i)
  finite-at = point-finite ps (nu * nv) Va.triples Va.controls.coordinates

  -- the exact homogeneous net
  abbrev H : (ℕ → ℚ) → ℕ → ℕ → ℚ
  H P i j = (grid nv P i j -q P ((us - p) * nv + (vs - q))) *q (w₂ i j /q σ)

  abbrev HW : ℕ → ℕ → ℚ
  HW i j = w₂ i j /q σ

  abbrev HT : (ℕ → ℕ → ℚ) → Three
  HT C = record {
    value = net (val_at uk) u us p (us - p) (val_at vk) v vs q (vs - q) C;
    du = net-du (val_at uk) u us p (us - p) (val_at vk) v vs q (vs - q) C;
    dv = net-dv (val_at uk) u us p (us - p) (val_at vk) v vs q (vs - q) C;
  }

  abbrev wh : ℚ
  wh = net (val_at uk) u us p (us - p) (val_at vk) v vs q (vs - q) HW

  wh-low : a /q σ ≤q wh
  wh-low =
      weight₂-low Iu.knots Iv.knots p (us - p) nu q (vs - q) nv Iu.base Iu.fits Iu.room Iv.base Iv.fits Iv.room Iu.above Iu.below Iv.above Iv.below w₂ a σ
      least-is.positive lows highs

  wh-high : wh ≤q q1
  wh-high =
      weight₂-le-1 Iu.knots Iv.knots p (us - p) nu q (vs - q) nv Iu.base Iu.fits Iu.room Iv.base Iv.fits Iv.room Iu.above Iu.below Iv.above Iv.below w₂ a σ
      least-is.positive lows highs

  sum-ne : whole₂ (val_at uk) u us p nu (val_at vk) v vs q nv w₂ ≢ q0
  sum-ne =
      pos-ne (weight₂-pos Iu.knots Iv.knots p (us - p) nu q (vs - q) nv Iu.base Iu.fits Iu.room Iv.base Iv.fits Iv.room Iu.above Iu.below Iv.above
      Iv.below w₂ a σ least-is.positive lows highs)

  abbrev EX : (ℕ → ℚ) → Three
  EX P = at-uv p q us vs uk vk nu nv r ws u v P

  exact-eq : (P : ℕ → ℚ) → over (HT (H P)) (HT HW) (P ((us - p) * nv + (vs - q))) ≡ EX P
  exact-eq P = three-eq (over (HT (H P)) (HT HW) (P ((us - p) * nv + (vs - q)))) (EX P)
      (sym (exact₂-net Iu.knots Iv.knots p (us - p) nu q (vs - q) nv Iu.base Iu.fits Iu.room Iv.base Iv.fits Iv.room w₂ (grid nv P) (P ((us - p) * nv + (vs - q))) σ
      (pos-ne σ-pos) u v sum-ne))
      (sym (exact₂-du Iu.knots Iv.knots p (us - p) nu q (vs - q) nv Iu.base Iu.fits Iu.room Iv.base Iv.fits Iv.room w₂ (grid nv P) (P ((us - p) * nv + (vs - q))) σ
      (pos-ne σ-pos) u v sum-ne))
      (sym (exact₂-dv Iu.knots Iv.knots p (us - p) nu q (vs - q) nv Iu.base Iu.fits Iu.room Iv.base Iv.fits Iv.room w₂ (grid nv P) (P ((us - p) * nv + (vs - q))) σ
      (pos-ne σ-pos) u v sum-ne))

  abbrev Good : Result Bounds Refusal → Type 0
  Good A = Boxes A (EX (X ps)) (EX (Y ps)) (EX (Z ps))

  abbrev iu : Interval
  iu = record { lo = ulo; hi = uhi }

  abbrev iv : Interval
  iv = record { lo = vlo; hi = vhi }

  module _ (scale : Float) (bound : Interval) (cut : Cut (min_rows w (suc q) (suc p)) (max_rows w (suc q) (suc p)) scale bound) where
    abbrev row : ℕ → Result Control Refusal
    row m = row_at p q us vs uk vk nv ps ws r ulo uhi vlo vhi scale iv m

    abbrev start : Interval → ℕ → ℕ → Control
    start c m = start_at ps ws r ((us - p + m) * nv + (vs - q)) (P.point_of ps ((us - p) * nv + (vs - q))) c

    start-in : (c : Interval) → Inside c (inv σ) → (m : ℕ) → m ≤ p → (k : ℕ) → k ≤ q
        → ControlIn (start c m k) (H (X ps) (us - p + m) (vs - q + k)) (H (Y ps) (us - p + m) (vs - q + k)) (H (Z ps) (us - p + m) (vs - q + k)) (HW (us - p + m) (vs - q + k))
    unfolding start_at
    start-in c d m l k h =
        subst (λ (i : ℕ). ControlIn (start c m k) ((X ps i -q X ps ((us - p) * nv + (vs - q))) *q (weight_value r ws i /q σ)) ((Y ps i -q Y ps ((us - p) * nv + (vs - q))) *q (weight_value r ws i /q σ))
        ((Z ps i -q Z ps ((us - p) * nv + (vs - q))) *q (weight_value r ws i /q σ)) (weight_value r ws i /q σ)) (same_place m k)
        (control-in (P.point_of ps ((us - p + m) * nv + (vs - q) + k)) (P.point_of ps ((us - p) * nv + (vs - q))) (weight_at r ws ((us - p + m) * nv + (vs - q) + k)) c σ
        (finite-at ((us - p + m) * nv + (vs - q) + k) (here' m k l h)) (finite-at ((us - p) * nv + (vs - q)) first-here) (heavy ((us - p + m) * nv + (vs - q) + k) (here' m k l h)) d)

    -- a row along v: what it refuses
    row-given : (m : ℕ) → m ≤ p → Given (refused_by (row m))
    unfolding row_at row_of deboor_of
    row-given m h = go (reciprocal_of (point_of scale)) (scale_in cut most-is.held)
      where
        go : (a : Result Interval DivideError) → Formed a (inv σ) → Given (refused_by (row_by ps ws r ((us - p + m) * nv + (vs - q)) (P.point_of ps ((us - p) * nv + (vs - q))) vk q vs (second_of iv) a))
        go (Ok c) d = last-given (refusal_levels vk q vs (second_of iv) 1 q) (net_of vk q vs (second_of iv) (start c m) q q)
            (levels-given vk q vs (second_of iv) Iv.knots Iv.low Iv.room Iv.held v q0 q1 (second-in vlo vhi v Sv.lo-finite Sv.hi-finite v-from v-upto) 0 q (omega arith))
        go (Err HoldsZero) d = tt
        go (Err Unbounded) d = absurd d

    -- and what it holds
    module _ (sel : Control → Jet) (mixes : (α : Jet) (a b : Control) → sel (mix_of α a b) ≡ mix_jet α (sel a) (sel b)) (C : ℕ → ℕ → ℚ)
        (holds : (c : Interval) → Inside c (inv σ) → (m : ℕ) → m ≤ p → (k : ℕ) → k ≤ q → JetIn (sel (start c m k)) (C (us - p + m) (vs - q + k)) q0 q0) where
      abbrev RowIn : ℕ → Result Control Refusal → Type 0
      RowIn m A =
          refused_by A ≡ Ok tt → JetIn (sel (net_control A)) (work (val_at vk) v q vs (λ k. C (us - p + m) (vs - q + k)) q q) q0
          (dwork (val_at vk) v q vs (λ k. C (us - p + m) (vs - q + k)) (λ k. q0) q q)

      by-scale : (m : ℕ) → m ≤ p → (a : Result Interval DivideError) → Formed a (inv σ) → RowIn m (row_by ps ws r ((us - p + m) * nv + (vs - q)) (P.point_of ps ((us - p) * nv + (vs - q))) vk q vs (second_of iv) a)
      unfolding deboor_of dwork
      by-scale m h (Ok c) d ok =
          let x = last-none (refusal_levels vk q vs (second_of iv) 1 q) (net_of vk q vs (second_of iv) (start c m) q q) ok in
          subst (λ c. JetIn (sel c) (work (val_at vk) v q vs (λ k. C (us - p + m) (vs - q + k)) q q) q0 (dwork (val_at vk) v q vs (λ k. C (us - p + m) (vs - q + k)) (λ k. q0) q q)) (sym x.1)
          (net-in vk q vs (second_of iv) Iv.knots Iv.low Iv.room Iv.held v q0 q1 (second-in vlo vhi v Sv.lo-finite Sv.hi-finite v-from v-upto) sel mixes (start c m)
          (λ k. C (us - p + m) (vs - q + k)) (λ l j. q0) (dwork (val_at vk) v q vs (λ k. C (us - p + m) (vs - q + k)) (λ k. q0))
          (nowhere (val_at vk) v q vs (λ k. C (us - p + m) (vs - q + k))) (along (val_at vk) v q vs (λ k. C (us - p + m) (vs - q + k)) (λ k. q0)) (holds c d m h)
          (none vk q vs (second_of iv) x.0) q q (omega arith))
      by-scale m h (Err HoldsZero) d ok = cc
      by-scale m h (Err Unbounded) d ok = absurd d

      row_in : (m : ℕ) → m ≤ p → RowIn m (row m)
      unfolding row_at row_of
      row_in m h = by-scale m h (reciprocal_of (point_of scale)) (scale_in cut most-is.held)

      -- and the column of the rows along u
      column-in : refusal_up row (p + 1) 0 ≡ Ok tt → refusal_levels uk p us (parameter_of iu) 1 p ≡ Ok tt
          → JetIn (sel (net_of uk p us (parameter_of iu) (λ m. net_control (row m)) p p)) (HT C).value (HT C).du (HT C).dv
      unfolding net net-du net-dv work dwork
      column-in clear ok =
          net-in uk p us (parameter_of iu) Iu.knots Iu.low Iu.room Iu.held u q1 q0 (param_in ulo uhi u Su.lo-finite Su.hi-finite u-from u-upto) sel mixes (λ m. net_control (row m))
          (λ m. work (val_at vk) v q vs (λ k. C (us - p + m) (vs - q + k)) q q)
          (dwork (val_at uk) u p us (λ m. work (val_at vk) v q vs (λ k. C (us - p + m) (vs - q + k)) q q) (λ m. q0))
          (work (val_at uk) u p us (λ m. dwork (val_at vk) v q vs (λ k. C (us - p + m) (vs - q + k)) (λ k. q0) q q))
          (along (val_at uk) u p us (λ m. work (val_at vk) v q vs (λ k. C (us - p + m) (vs - q + k)) q q) (λ m. q0))
          (across (val_at uk) u p us (λ m. work (val_at vk) v q vs (λ k. C (us - p + m) (vs - q + k)) q q) (λ m. dwork (val_at vk) v q vs (λ k. C (us - p + m) (vs - q + k)) (λ k. q0) q q))
          (λ m h. let z : 0 + m ≡ m = omega arith in row_in m h (subst (λ i. refused_by (row i) ≡ Ok tt) z (up-0 row (p + 1) 0 clear m (omega arith))))
          (none uk p us (parameter_of iu) ok) p p (omega arith)

    levels-in : refusal_up row (p + 1) 0 ≡ Ok tt → (k : Result (Unit {0}) Refusal) → refusal_levels uk p us (parameter_of iu) 1 p ≡ k
        → Good (net_by (P.point_of ps ((us - p) * nv + (vs - q))) bound (last_by k (net_of uk p us (parameter_of iu) (λ m. net_control (row m)) p p)))
    unfolding last_by mix_of
    levels-in clear (Err k) e =
        subst Given e (levels-given uk p us (parameter_of iu) Iu.knots Iu.low Iu.room Iu.held u q1 q0 (param_in ulo uhi u Su.lo-finite Su.hi-finite u-from u-upto) 0 p (omega arith))
    levels-in clear (Ok k) e =
        boxes-eq (cartesian_of (net_of uk p us (parameter_of iu) (λ m. net_control (row m)) p p) (P.point_of ps ((us - p) * nv + (vs - q))) bound)
        (over (HT (H (X ps))) (HT HW) (X ps ((us - p) * nv + (vs - q)))) (over (HT (H (Y ps))) (HT HW) (Y ps ((us - p) * nv + (vs - q))))
        (over (HT (H (Z ps))) (HT HW) (Z ps ((us - p) * nv + (vs - q))))
        (EX (X ps)) (EX (Y ps)) (EX (Z ps)) (exact-eq (X ps)) (exact-eq (Y ps)) (exact-eq (Z ps))
        (cartesian-in (net_of uk p us (parameter_of iu) (λ m. net_control (row m)) p p) (P.point_of ps ((us - p) * nv + (vs - q))) bound (HT (H (X ps))) (HT (H (Y ps))) (HT (H (Z ps))) (HT HW)
        (column-in (λ c. c.x) (λ α a b. refl) (H (X ps)) (λ c d m l k n. (start-in c d m l k n).x) clear e)
        (column-in (λ c. c.y) (λ α a b. refl) (H (Y ps)) (λ c d m l k n. (start-in c d m l k n).y) clear e)
        (column-in (λ c. c.z) (λ α a b. refl) (H (Z ps)) (λ c d m l k n. (start-in c d m l k n).z) clear e)
        (column-in (λ c. c.w) (λ α a b. refl) HW (λ c d m l k n. (start-in c d m l k n).w) clear e)
        (bound-in cut wh wh-low wh-high) (finite-at ((us - p) * nv + (vs - q)) first-here))

    ranges_in : Good (ranges_are p q us vs uk vk nv ps ws r ulo uhi vlo vhi scale bound (new_of vlo vhi) (new_of ulo uhi))
    unfolding new_of deboor_of filled_of
    ranges_in = go (le vlo vhi) (le ulo uhi)
      where
        go : (x y : Bool) → Good (ranges_are p q us vs uk vk nv ps ws r ulo uhi vlo vhi scale bound (cond x (Some iv) None) (cond y (Some iu) None))
        go true true =
            refuse-in (P.point_of ps ((us - p) * nv + (vs - q))) bound (refusal_up row (p + 1) 0) (deboor_of uk p us (parameter_of iu) (λ m. net_control (row m))) (EX (X ps)) (EX (Y ps)) (EX (Z ps))
            (up-given row (p + 1) 0 (λ m l. let z : 0 + m ≡ m = omega arith in subst (λ i. Given (refused_by (row i))) (sym z) (row-given m (omega arith))))
            (λ clear. levels-in clear (refusal_levels uk p us (parameter_of iu) 1 p) refl)
        go true false = tt
        go false y = tt

  pub spans-bound-in : Good (spans_bound p q us vs uk vk nv ps ws r ulo uhi vlo vhi)
  unfolding spans_bound
  spans-bound-in = go (range_of (min_rows w (q + 1) (p + 1)) (max_rows w (q + 1) (p + 1)))
      (subst (λ i. Cuts (min_rows w (suc q) (suc p)) (max_rows w (suc q) (suc p)) (range_of (min_rows w i (p + 1)) (max_rows w i (p + 1)))) (sym (add-one q))
      (subst (λ i. Cuts (min_rows w (suc q) (suc p)) (max_rows w (suc q) (suc p)) (range_of (min_rows w (suc q) i) (max_rows w (suc q) i))) (sym (add-one p))
      (range-in (min_rows w (suc q) (suc p)) (max_rows w (suc q) (suc p)) least-is.held most-is.held (≤_trans wh-low wh-high))))
    where
      go : (A : Result Weights Refusal) → Cuts (min_rows w (suc q) (suc p)) (max_rows w (suc q) (suc p)) A → Good (weights_by p q us vs uk vk nv ps ws r ulo uhi vlo vhi A)
      go (Ok w) c = ranges_in w.scale w.bound c
      go (Err k) c = c

-- ---- the whole answer

-- bounds hold the exact point and its two derivatives at each pair of fractions of the ranges
pub surface-holds : (p q : ℕ) (uk vk : List Float) (nu nv : ℕ) (ps ws : List Float) (r : Bool) (ulo uhi vlo vhi : Float)
    → SurfaceHolds p q uk vk nu nv ps r ws ulo uhi vlo vhi (surface_of p q uk vk nu nv ps r ws ulo uhi vlo vhi)
unfolding surface_of bounded_by
surface-holds p q uk vk nu nv ps ws r ulo uhi vlo vhi u v uf ut vf vt =
    let us = span_over p nu uk ulo uhi in
    let vs = span_over q nv vk vlo vhi in
    let e : ℕ → Three = λ k. at-uv p q us vs uk vk nu nv r ws u v (coordinate_value ps k) in
    let inner = spans_bound p q us vs uk vk nv ps ws r ulo uhi vlo vhi in
    let ranges = ranges_refusal p q nu nv us vs ulo uhi vlo vhi in
    unless-in (surface_refusal p q uk vk nu nv ps r ws) (unless ranges (bounded_of inner)) e
    (λ h. let Va = valid-surface p q uk vk nu nv ps r ws h in
    unless-in ranges (bounded_of inner) e
    (λ k.
    let b = ranges-valid p q uk vk nu nv ulo uhi vlo vhi Va.u Va.v k in
    boxed inner e (spans-bound-in p q us vs uk vk nu nv ps ws r ulo uhi vlo vhi Va b.0 b.1 u v uf ut vf vt)))
