-- Where a knot goes that is not refused; and its insertion keeps the ends of the domain. So 13 of a later knot of a list says the same of the first curve's domain, by which the
-- source tests every knot.
-- Assumes nothing.
use Prim.Native.Nat.{ℕ, ◌+◌}
use mathlib.Core.Bool.{Bool, true}
use mathlib.Core.Path.{◌≡◌, sym, ◌∙◌, subst}
use mathlib.Core.List.{List}
use native.Mathlib.Omega.{arith}
use lib.ListN.{length}
use lib.Ieee.{Float, lt}
use lib.Ieee.Scale.{finite}
use Rattle.doubles.specs.Run.{at}
use Rattle.knots.specs.Knots.{ValidKnots}
use Rattle.knots.specs.Span.{SpanAt, span_of}
use Rattle.knots.proofs.Refusals.{or_else-none}
use Rattle.knots.proofs.Spans.{search-meets, span-is}
use Rattle.runs.proofs.Tabulated.{at-tabulate}
use Rattle.edits.specs.Counts.{multiplicity_of}
use Rattle.insertion.specs.Insert.{knot_at, more_knots, spot_refusal, form_refusal, inserted_knots, insert_refusal}
use Rattle.insertion.proofs.Storing.{knot-low, knot-high}
use Rattle.insertion.proofs.OneInsertion.{spot-open}

-- where a knot that is not refused goes
pub record Spot (p n : ℕ) (ks : List Float) (t : Float) : Type 0 where
  pub number : finite t ≡ true
  pub high : lt t (at ks n) ≡ true
  pub span : SpanAt p n ks t (span_of p n ks t)

module _ (p n : ℕ) (ks ps : List Float) (g : Bool) (ws : List Float) (t : Float) (v : ValidKnots p n ks) where
  pub spot : (insert_refusal p n ks ps g ws t).number ≡ 0 → Spot p n ks t
  unfolding insert_refusal
  spot h =
      let a = or_else-none (spot_refusal (at ks p) (at ks n) t p (multiplicity_of ks t)) (form_refusal p n (span_of p n ks t) (multiplicity_of ks t) t ks ps g ws) h in
      let o = spot-open p n ks ps g ws t (multiplicity_of ks t) v a.0 in
      let s = search-meets p n ks v t o.within.parameter o.within.low in
      let e = span-is p n ks v t _ o.within.parameter s in
      record { number = o.within.parameter; high = o.high; span = subst (λ (k : ℕ). SpanAt p n ks t k) e s }

  pub domain-kept : (insert_refusal p n ks ps g ws t).number ≡ 0
      → (at (inserted_knots p n ks ps g ws t) p ≡ at ks p) × (at (inserted_knots p n ks ps g ws t) (n + 1) ≡ at ks n)
  unfolding inserted_knots more_knots
  domain-kept h =
      let k = span_of p n ks t in
      let S = (spot h).span in
      let x = S.from in
      let y = S.below in
      let l = v.long in
      let c = v.count in (
        at-tabulate (length ks + 1) (knot_at k t ks) p (omega arith) ∙ sym (knot-low k t ks p x),
        at-tabulate (length ks + 1) (knot_at k t ks) (n + 1) (omega arith) ∙ sym (knot-high k t ks n (omega arith)),
      )
