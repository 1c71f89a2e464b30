-- Valid knots as fractions: what the exact theorems ask of a nonempty span, and of a range inside it. Assumes nothing.
use mathlib.Core.Path.{◌≡◌, subst}
use mathlib.Core.Bool.{true, false}
use mathlib.Core.List.{List}
use Prim.Native.Nat.{ℕ, suc, ◌+◌, ◌≤◌, ◌<◌}
use native.Mathlib.Omega.{arith}
use native.Mathlib.Numerals.{add-one}
use lib.ListN.{length}
use lib.Dec.{T}
use lib.Ieee.{Float, lt}
use lib.Ieee.Scale.{finite}
use Rattle.exact.specs.Rational.{ℚ, ◌≤q◌, ◌<q◌}
use Rattle.exact.specs.Spline.{Knots}
use Rattle.exact.specs.Boehm.{SpanOf, InSpan, InEnd}
use Rattle.exact.proofs.DeBoor.{mono-of-steps}
use Rattle.exact.proofs.Spans.{span-there, end-there}
use Rattle.doubles.specs.Run.{at, val_at}
use Rattle.doubles.proofs.TestFacts.{T_of, Tn-of}
use Rattle.doubles.proofs.Value.{val-lt, val-le}
use Rattle.knots.specs.Knots.{ValidKnots}
use Rattle.knots.specs.Span.{nonempty}

module _ (p n : ℕ) (ks : List Float) (v : ValidKnots p n ks) where
  finite-at : (k : ℕ) → k < length ks → T (finite (at ks k))
  finite-at k l = T_of (finite (at ks k)) (v.finites k l)

  step : (k : ℕ) → suc k < length ks → val_at ks k ≤q val_at ks (suc k)
  step k l =
      let h : lt (at ks (suc k)) (at ks k) ≡ false = subst (λ (m : ℕ). lt (at ks m) (at ks k) ≡ false) (add-one k) (v.rises k (omega arith)) in
      val-le (at ks (suc k)) (at ks k) (finite-at (suc k) l) (finite-at k (omega arith)) (Tn-of _ h)

  -- the knots do not decrease
  pub in_order : (i j : ℕ) → i ≤ j → j < n + suc p → val_at ks i ≤q val_at ks j
  in_order i j h l = let L = v.long in mono-of-steps (val_at ks) (length ks) step i j h (omega arith)

  -- each parameter of the domain has its span
  module _ (t : ℚ) where
    pub table-span : val_at ks p ≤q t → t <q val_at ks n → (s : ℕ) × SpanOf (val_at ks) p n s × InSpan (val_at ks) s t
    table-span = let C = v.count in span-there (val_at ks) p n in_order (omega arith) t

    pub table-end : val_at ks p <q t → t ≤q val_at ks n → (s : ℕ) × SpanOf (val_at ks) p n s × InEnd (val_at ks) s t
    table-end = let C = v.count in end-there (val_at ks) p n in_order (omega arith) t

  -- and a nonempty span is not empty
  pub knots-of : (s : ℕ) → s < n → nonempty ks s ≡ true → Knots (val_at ks) (length ks) s
  knots-of s l h =
      let L = v.long in
      let e : lt (at ks s) (at ks (suc s)) ≡ true = subst (λ (m : ℕ). lt (at ks s) (at ks m) ≡ true) (add-one s) h in
      record {
        mono = mono-of-steps (val_at ks) (length ks) step;
        gap = val-lt (at ks s) (at ks (suc s)) (finite-at s (omega arith)) (finite-at (suc s) (omega arith)) (T_of _ e);
      }
