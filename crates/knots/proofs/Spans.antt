-- The span of a parameter of valid knots: the search finds it, it is not empty, and it is the computed one, so that two spans of one parameter coincide.
-- Assumes nothing.
use Prim.Native.Nat.{ℕ, zero, suc, ◌+◌, ◌-◌, ◌≤◌, ◌<◌}
use mathlib.Core.Bool.{Bool, true, false, not}
use mathlib.Core.Path.{◌≡◌, refl, sym, ◌∙◌, ap, subst}
use mathlib.Core.Logic.{inl, inr}
use mathlib.Core.List.{List}
use native.Mathlib.Omega.{arith}
use native.Mathlib.Nat.{add-zero}
use lib.ListN.{length}
use lib.Ieee.{Float, lt, le}
use lib.Ieee.Scale.{finite}
use borrow.Author.Tests.{lt-leb}
use Rattle.doubles.specs.Run.{at}
use Rattle.knots.specs.Knots.{ValidKnots}
use Rattle.knots.specs.Span.{SpanAt, nonempty, last_nonempty, halved, span_of, searched}
use Rattle.doubles.proofs.TestedOrder.{lt_irrefl, lt-ge-trans, ge-lt-trans, ge_trans, le-gives, ge-le, le_is}
use Rattle.knots.proofs.Valid.{sorted}
use Rattle.knots.proofs.Last.{last-is, last-unique}
use Rattle.knots.proofs.Halving.{between}

module _ (p n : ℕ) (ks : List Float) (v : ValidKnots p n ks) where
  pub finite-at : (k : ℕ) → k ≤ n → finite (at ks k) ≡ true
  finite-at k l = let L = v.long in v.finites k (omega arith)

  -- where the spans from i on are empty, the knot at i is not below a later one
  flat : (i d : ℕ) → i + d ≤ n → ((k : ℕ) → i ≤ k → k < i + d → nonempty ks k ≡ false) → lt (at ks i) (at ks (i + d)) ≡ false
  flat i zero l h = rw add-zero (lt_irrefl (at ks i))
  flat i (suc d) l h =
      let e : i + d + 1 ≡ i + suc d = omega arith in
      let last : lt (at ks (i + d)) (at ks (i + suc d)) ≡ false = subst (λ (m : ℕ). lt (at ks (i + d)) (at ks m) ≡ false) e (h (i + d) (omega arith) (omega arith)) in
      ge_trans (at ks i) (at ks (i + d)) (at ks (i + suc d)) (finite-at (i + d) (omega arith))
      (flat i d (omega arith) (λ k a b. h k a (omega arith))) last

  -- where the spans after p are empty, p is not
  pub only-first : ((k : ℕ) → p < k → k < n → nonempty ks k ≡ false) → nonempty ks p ≡ true
  only-first h =
      let C = v.count in
      let e : p + 1 + (n - p - 1) ≡ n = omega arith in
      let level = flat (p + 1) (n - p - 1) (omega arith) (λ k a b. h k (omega arith) (omega arith)) in
      lt-ge-trans (at ks p) (at ks n) (at ks (p + 1)) (finite-at (p + 1) (omega arith))
      v.domain (subst (λ (m : ℕ). lt (at ks (p + 1)) (at ks m) ≡ false) e level)

  -- ---- what the search finds
  end-meets : (w : Float) → lt w (at ks n) ≡ false → SpanAt p n ks w (last_nonempty p n ks)
  end-meets w o =
      let C = v.count in
      let s = last_nonempty p n ks in
      let h = last-is (nonempty ks) p (n - p - 1) in
      let F = h.from in
      let T = h.to in
      let later : (k : ℕ) → s < k → k < n → nonempty ks k ≡ false = λ k a b. h.later k a (omega arith) in
      let here : nonempty ks s ≡ true = elim h.passes [
        | inl e ↦ subst (λ (m : ℕ). nonempty ks m ≡ true) (sym e) (only-first (λ k a b. later k (omega arith) b))
        | inr t ↦ t
      ] in
      record { from = F; below = omega arith; inside = λ q. (cc, cc); ending = λ q. (here, later) }

  inner_meets : (w : Float) → finite w ≡ true → lt w (at ks p) ≡ false → lt w (at ks n) ≡ true → SpanAt p n ks w (halved (n - p) ks w p n)
  inner_meets w W a b =
      let C = v.count in
      let s = halved (n - p) ks w p n in
      let h = between ks w (n - p) p n C (omega arith) a b in
      let B = h.below in
      record {
        from = h.from;
        below = B;
        inside = λ q. (ge-le (at ks s) w (finite-at s (omega arith)) W h.reached, h.next);
        ending = λ q. (cc, (λ k l m. cc));
      }

  pub search-meets : (w : Float) → finite w ≡ true → lt w (at ks p) ≡ false → SpanAt p n ks w (searched p n ks w)
  unfolding searched
  search-meets w W a = go (lt w (at ks n)) refl
    where
      long : n < length ks
      long = let L = v.long in omega arith

      go : (t : Bool) → lt w (at ks n) ≡ t → SpanAt p n ks w (searched p n ks w)
      go true t = simp (lt-leb (length ks) n long, t) (inner_meets w W a t)
      go false t = simp (lt-leb (length ks) n long, t) (end-meets w t)

  -- ---- the span is the computed one
  module _ (w : Float) (s : ℕ) (W : finite w ≡ true) (S : SpanAt p n ks w s) where
    -- no knot after the span's upper one is at most w
    after : lt w (at ks n) ≡ true → (k : ℕ) → s < k → k < n → le (at ks k) w ≡ false
    after e k a b =
        let L = v.long in
        let up = lt-ge-trans w (at ks (s + 1)) (at ks k) (finite-at k (omega arith)) (S.inside e).1 (sorted p n ks v (s + 1) k (omega arith) (omega arith)) in
        le_is (at ks k) w (finite-at k (omega arith)) W ∙ ap not up

    pub span-is : s ≡ span_of p n ks w
    unfolding span_of
    span-is = go (lt w (at ks n)) refl
      where
        F : p ≤ s
        F = S.from

        B : s < n
        B = S.below

        go : (t : Bool) → lt w (at ks n) ≡ t → s ≡ span_of p n ks w
        go true t = simp t (last-unique (λ k. le (at ks k) w) p (n - p - 1) s F (omega arith) (S.inside t).0 (λ j i m. after t j i (omega arith)))
        go false t = simp t (last-unique (nonempty ks) p (n - p - 1) s F (omega arith) (S.ending t).0 (λ j i m. (S.ending t).1 j i (omega arith)))

    -- a span that a parameter has is not empty
    pub span-nonempty : nonempty ks s ≡ true
    span-nonempty = go (lt w (at ks n)) refl
      where
        B : s < n
        B = S.below

        go : (t : Bool) → lt w (at ks n) ≡ t → nonempty ks s ≡ true
        go true t =
            let low = le-gives (at ks s) w (finite-at s (omega arith)) W (S.inside t).0 in
            ge-lt-trans (at ks s) w (at ks (s + 1)) (finite-at s (omega arith)) low (S.inside t).1
        go false t = (S.ending t).0
