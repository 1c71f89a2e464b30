-- A knot run is not refused exactly where it is valid. And the knots of a valid run are in order.
-- Assumes nothing.
use Prim.Native.Nat.{ℕ, zero, suc, ◌+◌, ◌-◌, ◌≤◌, ◌<◌}
use mathlib.Core.Bool.{true, false, not}
use mathlib.Core.Path.{◌≡◌, sym, ◌∙◌, ap, subst}
use mathlib.Core.List.{List}
use native.Mathlib.Omega.{arith}
use native.Mathlib.Nat.{add-zero, add-suc}
use native.Mathlib.Numerals.{add-one}
use lib.ListN.{length}
use lib.Dec.{leb, eqb}
use lib.Ieee.{Float, binary64, sub, lt, le}
use lib.Ieee.Scale.{finite}
use borrow.Author.Tests.{eqb-true, eqb-false, leb-false, eq-eqb, ne_eqb, lt-leb, not-true, not-false}
use Rattle.doubles.specs.Run.{at}
use Rattle.knots.specs.Refusal.{refuse, accepted, placed, DegreeZero, FewPoints, KnotCount, KnotsUnordered, DomainEmpty, DomainWide, KnotRepeated}
use Rattle.knots.specs.Knots.{all_finite, in_order, ordered, apart, order_refusal, knot_refusal, ValidKnots}
use Rattle.knots.proofs.Below.{all-at, all_in, and-true, and_left, and_right}
use Rattle.doubles.proofs.TestedOrder.{le_is, ge_trans, lt_irrefl}
use Rattle.knots.proofs.Refusals.{passed}

-- ---- finite numbers in order: a later one is not below an earlier one
module _ (ks : List Float) (F : (k : ℕ) → k < length ks → finite (at ks k) ≡ true) (R : (k : ℕ) → k + 1 < length ks → lt (at ks (k + 1)) (at ks k) ≡ false) where
  later : (i d : ℕ) → i + d < length ks → lt (at ks (i + d)) (at ks i) ≡ false
  later i zero l = rw add-zero (lt_irrefl (at ks i))
  later i (suc d) l =
      let step : lt (at ks (i + suc d)) (at ks (i + d)) ≡ false =
      subst (λ (m : ℕ). lt (at ks m) (at ks (i + d)) ≡ false) (add-one (i + d) ∙ sym (add-suc i d)) (R (i + d) (omega arith)) in
      ge_trans (at ks (i + suc d)) (at ks (i + d)) (at ks i) (F _ (omega arith)) step (later i d (omega arith))

  pub sorted-run : (i j : ℕ) → i ≤ j → j < length ks → lt (at ks j) (at ks i) ≡ false
  sorted-run i j h l =
      let e : i + (j - i) ≡ j = omega arith in
      subst (λ (m : ℕ). lt (at ks m) (at ks i) ≡ false) e (later i (j - i) (omega arith))

module _ (p n : ℕ) (ks : List Float) where
  pub valid : (knot_refusal p n ks).number ≡ 0 → ValidKnots p n ks
  unfolding knot_refusal order_refusal ordered all_finite in_order apart
  valid h =
      let a = passed (eqb p 0) (refuse DegreeZero) _ (λ e. omega arith) h in
      let b = passed (leb n p) (refuse FewPoints) _ (λ e. omega arith) a.1 in
      let c = passed (not (eqb (length ks) (n + p + 1))) (refuse KnotCount) _ (λ e. omega arith) b.1 in
      let d = passed (not (ordered ks)) (placed _ (refuse KnotsUnordered)) _ (λ e. omega arith) c.1 in
      let e = passed (le (at ks n) (at ks p)) (refuse DomainEmpty) _ (λ e. omega arith) d.1 in
      let f = passed (not (finite (sub binary64 (at ks n) (at ks p)))) (refuse DomainWide) _ (λ e. omega arith) e.1 in
      let g = passed (not (apart (p + 1) ks)) (placed _ (refuse KnotRepeated)) accepted (λ e. omega arith) f.1 in
      let both = not-false (ordered ks) d.0 in
      let fins = all-at (λ k. finite (at ks k)) (length ks) (and_left (all_finite ks) (in_order ks) both) in
      let ups = all-at (λ k. not (lt (at ks (k + 1)) (at ks k))) (length ks - 1) (and_right (all_finite ks) (in_order ks) both) in
      let aps = all-at (λ k. not (le (at ks (k + (p + 1))) (at ks k))) (length ks - (p + 1)) (not-false (apart (p + 1) ks) g.0) in
      let P : p ≡ 0 → ⊥ = eqb-false p 0 a.0 in
      let N : p < n = leb-false n p b.0 in
      let L : length ks ≡ n + p + 1 = eqb-true (length ks) (n + p + 1) (not-false _ c.0) in
      record {
        degree = omega arith;
        count = N;
        long = L;
        finites = fins;
        rises = λ k l. not-true _ (ups k (omega arith));
        domain = not-false _ (sym (le_is (at ks n) (at ks p) (fins n (omega arith)) (fins p (omega arith))) ∙ e.0);
        width = not-false _ f.0;
        multiplicity = λ k l. not-false _ (sym (le_is (at ks (k + (p + 1))) (at ks k) (fins (k + (p + 1)) l) (fins k (omega arith))) ∙ not-true _ (aps k (omega arith)));
      }

  module _ (v : ValidKnots p n ks) where
    is-ordered : ordered ks ≡ true
    unfolding ordered all_finite in_order
    is-ordered =
        and-true (all_finite ks) (in_order ks) (all_in (λ k. finite (at ks k)) (length ks) v.finites)
        (all_in (λ k. not (lt (at ks (k + 1)) (at ks k))) (length ks - 1) (λ k l. ap not (v.rises k (omega arith))))

    is-apart : apart (p + 1) ks ≡ true
    unfolding apart
    is-apart =
        all_in (λ k. not (le (at ks (k + (p + 1))) (at ks k))) (length ks - (p + 1))
        (λ k l. ap not (le_is (at ks (k + (p + 1))) (at ks k) (v.finites (k + (p + 1)) (omega arith)) (v.finites k (omega arith)) ∙ ap not (v.multiplicity k (omega arith))))

    pub not-refused : knot_refusal p n ks ≡ accepted
    unfolding knot_refusal order_refusal
    not-refused =
        let D = v.degree in
        let C = v.count in
        let L = v.long in
        simp (
          ne_eqb p 0 (λ e. omega arith),
          lt-leb n p v.count,
          eq-eqb (length ks) (n + p + 1) v.long,
          is-ordered,
          le_is (at ks n) (at ks p) (v.finites n (omega arith)) (v.finites p (omega arith)),
          v.domain,
          v.width,
          is-apart,
        )

    pub sorted : (i j : ℕ) → i ≤ j → j < length ks → lt (at ks j) (at ks i) ≡ false
    sorted = sorted-run ks v.finites v.rises
