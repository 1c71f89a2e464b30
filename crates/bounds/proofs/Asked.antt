-- What a bound has asked before its step: the first refusal is its answer, and without one the step may be taken. Assumes nothing.
use Rattle.std.specs.Prelude.{Ok, Err}
use Prim.Native.Nat.{ℕ, ◌+◌, ◌≤◌, ◌<◌}
use mathlib.Core.Path.{◌≡◌, sym, ◌∙◌, ap}
use mathlib.Core.Bool.{Bool}
use mathlib.Core.List.{List}
use native.Mathlib.Omega.{arith}
use lib.ListN.{length}
use lib.Ieee.{Float}
use Rattle.knots.specs.declared.refusal.Refusal.{Refusal}
use Rattle.knots.specs.Refusal.{checked}
use Rattle.knots.specs.Curve.{count_of, curve_refusal, ValidCurve}
use Rattle.knots.proofs.Curves.{valid-curve}
use Rattle.knots.proofs.Refusals.{let_by, stopped_by, stop, skip}
use Rattle.ranges.specs.Range.{span_in, span_over, range_refusal}
use Rattle.ranges.specs.Read.{start_refusal}
use Rattle.ranges.proofs.SpanIn.{span-is, span-valid}
use Rattle.bounds.specs.Answer.{bounded_of}
use Rattle.bounds.specs.Curve.{span_bound, bound_of, bound_at}
use Rattle.bounds.proofs.Active.{started}

-- what the step of a curve requires
pub record Asked (p s : ℕ) (ks : List Float) : Type 0 where
  pub small : p ≤ 64
  pub first : p ≤ s
  pub room : s + p < length ks
  pub few : s < 1048576

module _ (p : ℕ) (ks ps ws : List Float) (r : Bool) (lo hi : Float) where
  -- ---- of a whole curve, on the span s that it takes
  pub curve-refused : {q : Refusal} → Err q ≡ checked (curve_refusal p ks ps r ws) → Err q ≡ bound_of p ks ps r ws lo hi
  unfolding bound_of
  curve-refused h = rw (stop _ h) (ap Err (stopped_by _ h).0)

  module _ (s : ℕ) {x : Unit {0}} (ok : Ok x ≡ checked (curve_refusal p ks ps r ws)) (at : s ≡ span_in p (count_of ps) ks lo hi) where
    valid : ValidCurve p ks ps r ws
    valid = valid-curve p ks ps r ws (let_by _ ok)

    is : s ≡ span_over p (count_of ps) ks lo hi
    is = at ∙ span-is p (count_of ps) ks lo hi valid.knots

    pub range-refused : {q : Refusal} → Err q ≡ checked (range_refusal p (count_of ps) s lo hi) → Err q ≡ bound_of p ks ps r ws lo hi
    unfolding bound_of
    range-refused h = rw (skip _ ok, ← is, stop _ h) (ap Err (stopped_by _ h).0)

    module _ {y : Unit {0}} (within : Ok y ≡ checked (range_refusal p (count_of ps) s lo hi)) where
      pub curve-asked : Asked p s ks
      curve-asked =
          let va = valid in
          let e = is in
          let sv = span-valid p (count_of ps) ks lo hi (omega (arith, va.knots.count)) (ap (λ (s : ℕ). (range_refusal p (count_of ps) s lo hi).number) (sym e) ∙ let_by _ within) in
          record {
            small = sv.small;
            first = omega (arith, sv.span.first, e);
            room = omega (arith, sv.span.last, va.knots.long, e);
            few = omega (arith, sv.span.last, va.triples, va.short.points, e);
          }

      pub curve-is : bounded_of (span_bound p s ks ps ws r lo hi) ≡ bound_of p ks ps r ws lo hi
      unfolding bound_of
      curve-is = rw (skip _ ok, ← is, skip _ within)

  -- ---- of a span that is asked for by its index
  module _ (s : ℕ) where
    pub start-refused : {q : Refusal} → Err q ≡ checked (start_refusal p s ks ps r ws lo hi) → Err q ≡ bound_at p s ks ps r ws lo hi
    unfolding bound_at
    start-refused h = rw (stop _ h) (ap Err (stopped_by _ h).0)

    module _ {x : Unit {0}} (ok : Ok x ≡ checked (start_refusal p s ks ps r ws lo hi)) where
      pub start-asked : Asked p s ks
      start-asked =
          let v = started p s ks ps r ws lo hi (let_by _ ok) in
          let l = v.active.last in
          let n = v.short.points in
          record { small = v.small; first = v.active.first; room = v.active.room; few = omega arith }

      pub start-is : bounded_of (span_bound p s ks ps ws r lo hi) ≡ bound_at p s ks ps r ws lo hi
      unfolding bound_at
      start-is = rw (skip _ ok)
