-- A bound of the point alone is the point's part of the bound with derivatives, and holds what that holds. Assumes nothing.
use Prim.Native.Nat.{ℕ}
use mathlib.Core.Path.{◌≡◌, refl, sym, subst}
use mathlib.Core.Bool.{Bool}
use mathlib.Core.List.{List}
use native.Mathlib.Omega.{arith}
use lib.Ieee.{Float}
use Rattle.doubles.specs.Neighbour.{fmin, fmax}
use Rattle.interval.specs.Ops.{point_of, new_of, reciprocal_of}
use Rattle.interval.specs.declared.Interval.{Interval}
use Rattle.knots.specs.Curve.{count_of}
use Rattle.runs.specs.declared.vector.Vector.{Vector}
use Rattle.runs.specs.Fraction.{coordinate_value}
use Rattle.jets.specs.Jet.{constant_of}
use Rattle.jets.specs.Net.{net_of, refusal_levels, last_by, deboor_of}
use Rattle.jets.specs.Cartesian.{coordinate_of, box_by, cut_by, cartesian_of, net_by}
use Rattle.jets.specs.Three.{Three}
use Rattle.jets.specs.declared.jet.Jet.{Jet}
use Rattle.jets.specs.declared.net.Control.{Control}
use Rattle.ends.specs.Good.{GoodPoint}
use Rattle.ends.specs.Flat.{flat_of, flat_net}
use Rattle.ends.proofs.Good.{mul-good}
use Rattle.ends.proofs.Mixed.{back}
use Rattle.ends.proofs.Net.{net-good}
use Rattle.bounds.specs.Answer.{bounds_of, bounded_of}
use Rattle.bounds.specs.Start.{moved_of, control_of, start_at, row_by, row_of}
use Rattle.bounds.specs.Curve.{bound_of, bound_at}
use Rattle.bounds.specs.Point.{point_only, point_part, along_of, flat_by, flat_cut, flat_cartesian, flat_box}
use Rattle.bounds.specs.Numbers.{bounded_refusal, point_refusal}
use Rattle.bounds.specs.Holds.{Boxed, PointBoxed, PointHoldsOn, PointHolds, NotIdle}
use Rattle.bounds.proofs.CurveHolds.{bound-holds, step-holds}
use Rattle.bounds.proofs.Idle.{bound-idle, step-idle}
use Rattle.std.specs.Prelude.{Option, Some, None, Result, Ok, Err}
use Rattle.interval.specs.declared.DivideError.{DivideError}
use Rattle.interval.specs.declared.DivideError.TheVariants.{HoldsZero, Unbounded}
use Rattle.jets.specs.declared.cartesian.Bounds.{Bounds}
use Rattle.bounds.specs.declared.answer.Triple.{Triple}
use Rattle.bounds.specs.declared.answer.NurbsBounds.{NurbsBounds}
use Rattle.knots.specs.declared.refusal.Refusal.{Refusal}

-- ---- a net starts with products
pub start-good : (ps ws : List Float) (r : Bool) (b : ℕ) (o : Vector) (q : Interval) (m : ℕ) → GoodPoint (start_at ps ws r b o q m)
unfolding start_at control_of moved_of constant_of
start-good ps ws r b o q m = record { x = mul-good _ _; y = mul-good _ _; z = mul-good _ _; w = mul-good _ _ }

abbrev GoodNet : Result Control Refusal → Type 0
GoodNet (Ok c) = GoodPoint c
GoodNet (Err n) = Unit

pub row-good : (ps ws : List Float) (r : Bool) (b : ℕ) (o : Vector) (scale : Float) (ks : List Float) (p s : ℕ) (t : Jet) → GoodNet (row_of ps ws r b o scale ks p s t)
unfolding row_of deboor_of last_by
row-good ps ws r b o scale ks p s t = go (reciprocal_of (point_of scale))
  where
    last : (L : Result (Unit {0}) Refusal) (c : Control) → GoodPoint c → GoodNet (last_by L c)
    last (Ok x) c G = G
    last (Err r) c G = tt

    go : (q : Result Interval DivideError) → GoodNet (row_by ps ws r b o ks p s t q)
    go (Ok q) = last (refusal_levels ks p s t 1 p) (net_of ks p s t (start_at ps ws r b o q) p p) (net-good ks p s t (start_at ps ws r b o q) (λ m h. start-good ps ws r b o q m) p p (omega arith))
    go (Err HoldsZero) = tt
    go (Err Unbounded) = tt

-- ---- from the net to the point
cartesian-same : (h : Control) (o : Vector) (bound : Interval) → GoodPoint h → flat_cartesian (flat_of h) o bound ≡ point_part (cartesian_of h o bound)
unfolding flat_cartesian cartesian_of
cartesian-same h o bound G = rw (back h.w.v G.w) (cut (new_of (fmax h.w.v.lo bound.lo) (fmin h.w.v.hi bound.hi)))
  where
    by : (q : Result Interval DivideError) → flat_by (flat_of h) o q ≡ point_part (box_by h o q)
    by (Ok r) = unfold coordinate_of along_of in rw (back h.x.v G.x, back h.y.v G.y, back h.z.v G.z)
    by (Err HoldsZero) = refl
    by (Err Unbounded) = refl

    cut : (n : Option Interval) → flat_cut (flat_of h) o n ≡ point_part (cut_by h o n)
    cut (Some w) = by (reciprocal_of w)
    cut None = refl

pub box-same : (o : Vector) (bound : Interval) (A : Result Control Refusal) → GoodNet A → flat_box o bound (flat_net A) ≡ point_part (net_by o bound A)
box-same o bound (Ok h) G = cartesian-same h o bound G
box-same o bound (Err n) G = refl

pub only-bounded : (A : Result Bounds Refusal) → point_part A ≡ point_only (bounded_of A)
unfolding bounds_of
only-bounded (Ok b) = refl
only-bounded (Err r) = refl

-- ---- the promises
only-boxed : (A : Result NurbsBounds Refusal) (e : ℕ → Three) → Boxed A e → PointBoxed (point_only A) (λ k. (e k).value)
only-boxed (Ok b) e h = h.point
only-boxed (Err r) e h = tt

only-refusal : (A : Result NurbsBounds Refusal) → point_refusal (point_only A) ≡ bounded_refusal A
only-refusal (Ok b) = refl
only-refusal (Err r) = refl

-- A is the point's part of B, F holds of it, and its refusal is neither 28 nor 29
abbrev pub PointPromised : Result Triple Refusal → Result NurbsBounds Refusal → (Result Triple Refusal → Type 0) → Type 0
PointPromised A B F = (A ≡ point_only B) × (F A × NotIdle (point_refusal A).number)

promised : (A : Result Triple Refusal) (B : Result NurbsBounds Refusal) (F : Result Triple Refusal → Type 0) → A ≡ point_only B → F (point_only B) → NotIdle (bounded_refusal B).number → PointPromised A B F
promised A B F e h i = (e, (subst F (sym e) h, rw (e, only-refusal B) i))

pub point-promised : (p : ℕ) (ks ps ws : List Float) (r : Bool) (lo hi : Float) (A : Result Triple Refusal) → A ≡ point_only (bound_of p ks ps r ws lo hi)
    → PointPromised A (bound_of p ks ps r ws lo hi) (PointHolds p ks ps r ws lo hi)
point-promised p ks ps ws r lo hi A e =
    promised A (bound_of p ks ps r ws lo hi) (PointHolds p ks ps r ws lo hi) e (λ t from upto. only-boxed (bound_of p ks ps r ws lo hi) _ (bound-holds p ks ps ws r lo hi t from upto)) (bound-idle p ks ps ws r lo hi)

pub point-step-promised : (p s : ℕ) (ks ps ws : List Float) (r : Bool) (lo hi : Float) (A : Result Triple Refusal) → A ≡ point_only (bound_at p s ks ps r ws lo hi)
    → PointPromised A (bound_at p s ks ps r ws lo hi) (PointHoldsOn p s ks (count_of ps) r ws lo hi (coordinate_value ps))
point-step-promised p s ks ps ws r lo hi A e =
    promised A (bound_at p s ks ps r ws lo hi) (PointHoldsOn p s ks (count_of ps) r ws lo hi (coordinate_value ps)) e (λ t from upto. only-boxed (bound_at p s ks ps r ws lo hi) _ (step-holds p s ks ps ws r lo hi t from upto))
    (step-idle p s ks ps ws r lo hi)
