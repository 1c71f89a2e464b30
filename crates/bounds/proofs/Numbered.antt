-- A bound of a curve that is refused has a number that is not 0. Assumes nothing.
use Prim.Native.Nat.{ℕ, zero, suc, ◌+◌, ◌-◌}
use mathlib.Core.Path.{◌≡◌, refl}
use mathlib.Core.Bool.{Bool, true, false, cond}
use mathlib.Core.List.{List}
use native.Mathlib.Omega.{arith}
use lib.Dec.{eqb}
use lib.Ieee.{Float, le}
use borrow.Author.Tests.{eqb-false}
use Rattle.doubles.specs.Value.{zero+, one+}
use Rattle.doubles.specs.Neighbour.{fmin, fmax}
use Rattle.knots.specs.declared.refusal.Refusal.{Refusal}
use Rattle.knots.specs.Curve.{count_of, curve_refusal}
use Rattle.runs.specs.Point as P
use Rattle.runs.specs.declared.vector.Vector.{Vector}
use Rattle.interval.specs.declared.Interval.{Interval}
use Rattle.interval.specs.Ops.{new_of, point_of, divide_of, reciprocal_of}
use Rattle.ranges.specs.Range.{span_over, range_refusal}
use Rattle.jets.specs.declared.net.Control.{Control}
use Rattle.jets.specs.Jet.{parameter_of}
use Rattle.knots.specs.Refusal.{refuse}
use Rattle.knots.specs.declared.refusal.Reason.TheVariants.{WeightRatioLow}
use Rattle.jets.specs.declared.jet.Jet.{Jet}
use Rattle.jets.specs.Net.{or_else, refused_by, share_by, share_of, share_at, refusal_from, net_of, refusal_levels, last_by, deboor_of}
use Rattle.jets.specs.Cartesian.{box_by, cut_by, cartesian_of, net_by}
use Rattle.bounds.specs.declared.start.Weights.{Weights}
use Rattle.bounds.specs.Start.{are_by, range_by, range_of, weights_of, start_at, row_by, row_of}
use Rattle.bounds.specs.Curve.{range_is, weights_are, span_bound, unless, bound_of}
use Rattle.bounds.specs.Answer.{bounded_of}
use Rattle.std.specs.Prelude.{Option, Some, None, Result, Ok, Err}
use Rattle.interval.specs.declared.DivideError.{DivideError}
use Rattle.interval.specs.declared.DivideError.TheVariants.{HoldsZero, Unbounded}
use Rattle.jets.specs.declared.cartesian.Bounds.{Bounds}
use Rattle.bounds.specs.declared.answer.NurbsBounds.{NurbsBounds}

-- an answer whose refusal, if it is one, has a number
abbrev pub Numbered : {A : Type 0} → Result A Refusal → Type 0
Numbered (Ok x) = Unit
Numbered (Err r) = r.number ≡ 0 → ⊥

not-0 : (n : ℕ) → suc n ≡ 0 → ⊥
not-0 n e = omega arith

weights-numbered : (w : ℕ → Float) (k : ℕ) → Numbered (weights_of w k)
unfolding weights_of range_of new_of
weights-numbered w k = go _ (divide_of _ _)
  where
    made : (most : Float) (l : Float) (x : Bool) → Numbered (are_by most (cond x (Some (record { lo = l; hi = one+ })) None))
    made most l true = tt
    made most l false = not-0 _

    low : (most : Float) (q : Interval) (x : Bool) → Numbered (cond x (Err (refuse WeightRatioLow)) (are_by most (new_of q.lo one+)))
    low most q true = not-0 _
    low most q false = made most q.lo (le q.lo one+)

    go : (most : Float) (q : Result Interval DivideError) → Numbered (range_by most q)
    go most (Ok q) = low most q (le q.lo zero+)
    go most (Err HoldsZero) = not-0 _
    go most (Err Unbounded) = not-0 _

net-numbered : (o : Vector) (bound : Interval) (a : Result Control Refusal) → Numbered a → Numbered (net_by o bound a)
unfolding cartesian_of new_of
net-numbered o bound (Err n) h = h
net-numbered o bound (Ok c) h =
    let lo = fmax c.w.v.lo bound.lo in
    let hi = fmin c.w.v.hi bound.hi in
    go (record { lo = lo; hi = hi }) (le lo hi)
  where
    box : (q : Result Interval DivideError) → Numbered (box_by c o q)
    box (Ok i) = tt
    box (Err HoldsZero) = not-0 _
    box (Err Unbounded) = not-0 _

    go : (i : Interval) (x : Bool) → Numbered (cut_by c o (cond x (Some i) None))
    go i true = box (reciprocal_of i)
    go i false = not-0 _

-- the refusals of all levels are those of shares
first-numbered : (a b : Result (Unit {0}) Refusal) → Numbered a → Numbered b → Numbered (or_else a b)
first-numbered (Ok x) b h k = k
first-numbered (Err r) b h k = h

share-numbered : (t : Jet) (left right : Float) → Numbered (refused_by (share_of t left right))
unfolding share_of
share-numbered t left right = go (divide_of _ _)
  where
    go : (q : Result Interval DivideError) → Numbered (refused_by (share_by t (point_of left) q))
    go (Ok q) = tt
    go (Err HoldsZero) = not-0 _
    go (Err Unbounded) = not-0 _

module _ (ks : List Float) (p s : ℕ) (t : Jet) where
  from-numbered : (l k j : ℕ) → Numbered (refusal_from ks p s t l k j)
  unfolding refusal_from share_at
  from-numbered l zero j = tt
  from-numbered l (suc k) j = first-numbered _ (refusal_from ks p s t l k (j - 1)) (share-numbered _ _ _) (from-numbered l k (j - 1))

  levels-numbered : (l k : ℕ) → Numbered (refusal_levels ks p s t l k)
  unfolding refusal_levels
  levels-numbered l zero = tt
  levels-numbered l (suc k) = first-numbered _ (refusal_levels ks p s t (l + 1) k) (from-numbered l (p + 1 - l) p) (levels-numbered (l + 1) k)

module _ (p s : ℕ) (ks ps ws : List Float) (r : Bool) (lo hi : Float) where
  span-numbered : Numbered (span_bound p s ks ps ws r lo hi)
  unfolding span_bound row_of deboor_of last_by
  span-numbered = go (weights_of _ (p + 1)) (weights-numbered _ (p + 1))
    where
      last : (k : Result (Unit {0}) Refusal) (c : Control) → Numbered k → Numbered (last_by k c)
      last (Ok x) c h = tt
      last (Err r) c h = h

      made : (scale : Float) (bound : Interval) (x : Option Interval) → Numbered (range_is p s ks ps ws r lo hi scale bound x)
      made scale bound None = not-0 _
      made scale bound (Some i) =
          let o = P.point_of ps (s - p) in
          let q = reciprocal_of (point_of scale) in
          net-numbered o bound (row_by ps ws r (s - p) o ks p s (parameter_of i) q) (row q)
        where
          row : (q : Result Interval DivideError) → Numbered (row_by ps ws r (s - p) (P.point_of ps (s - p)) ks p s (parameter_of i) q)
          row (Ok q) =
              let c : ℕ → Control = start_at ps ws r (s - p) (P.point_of ps (s - p)) q in
              last (refusal_levels ks p s (parameter_of i) 1 p) (net_of ks p s (parameter_of i) c p p) (levels-numbered ks p s (parameter_of i) 1 p)
          row (Err HoldsZero) = not-0 _
          row (Err Unbounded) = not-0 _

      go : (w : Result Weights Refusal) → Numbered w → Numbered (weights_are p s ks ps ws r lo hi w)
      go (Ok w) h = made w.scale w.bound (new_of lo hi)
      go (Err n) h = h

answer-numbered : (A : Result Bounds Refusal) → Numbered A → Numbered (bounded_of A)
answer-numbered (Ok b) h = tt
answer-numbered (Err n) h = h

unless-numbered : (f : Refusal) (A : Result NurbsBounds Refusal) → Numbered A → Numbered (unless f A)
unless-numbered f A h = go (eqb f.number 0) (eqb-false f.number 0)
  where
    go : (b : Bool) → (b ≡ false → f.number ≡ 0 → ⊥) → Numbered (cond b A (Err f))
    go true z = h
    go false z = z refl

pub bound-numbered : (p : ℕ) (ks ps ws : List Float) (r : Bool) (lo hi : Float) → Numbered (bound_of p ks ps r ws lo hi)
unfolding bound_of
bound-numbered p ks ps ws r lo hi =
    let s = span_over p (count_of ps) ks lo hi in
    unless-numbered (curve_refusal p ks ps r ws) _
    (unless-numbered (range_refusal p (count_of ps) s lo hi) _ (answer-numbered (span_bound p s ks ps ws r lo hi) (span-numbered p s ks ps ws r lo hi)))
