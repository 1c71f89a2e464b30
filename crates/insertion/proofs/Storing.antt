-- A knot put between others.
-- Assumes nothing.
use Prim.Native.Nat.{ℕ, ◌+◌, ◌-◌, ◌≤◌, ◌<◌}
use mathlib.Core.Path.{◌≡◌, refl, sym, ◌∙◌, ap, subst}
use mathlib.Core.List.{List, ◌++◌}
use native.Mathlib.Omega.{arith}
use borrow.Author.Tests.{le-leb, lt-leb, eq-eqb, ne_eqb}
use lib.ListN.{length, set, drop}
use lib.Ieee.{Float}
use Rattle.doubles.specs.Run.{at}
use Rattle.runs.specs.Tabulate.{tabulate}
use Rattle.runs.proofs.Overlays.{store-more}
use Rattle.runs.proofs.Cleared.{front-is, behind}
use Rattle.insertion.specs.Insert.{knot_at}

-- ---- a knot more
module _ (k : ℕ) (t : Float) (ks : List Float) where
  pub knot-low : (j : ℕ) → j ≤ k → at ks j ≡ knot_at k t ks j
  unfolding knot_at
  knot-low j l = simp (le-leb j k l)

  pub knot-here : t ≡ knot_at k t ks (k + 1)
  unfolding knot_at
  knot-here = simp (lt-leb (k + 1) k (omega arith), eq-eqb (k + 1) (k + 1) refl)

  pub knot-high : (i : ℕ) → k + 1 ≤ i → at ks i ≡ knot_at k t ks (i + 1)
  unfolding knot_at
  knot-high i l = let e : i + 1 - 1 ≡ i = omega arith in simp (lt-leb (i + 1) k (omega arith), ne_eqb (i + 1) (k + 1) (λ q. omega arith)) (ap (at ks) (sym e))

-- i places are there, and the knot that was at i is in hand
pub record InPut (k m : ℕ) (t : Float) (k₀ k₁ : List Float) (carry : Float) (i : ℕ) : Type 0 where
  pub from : k + 1 ≤ i
  pub upto : i ≤ m + 1
  pub long : length k₁ ≡ length k₀
  pub front : k₁ ≡ tabulate i (knot_at k t k₀) ++ drop i k₀
  pub next : carry ≡ knot_at k t k₀ i

module _ (k m : ℕ) (t : Float) (k₀ : List Float) (b : k < m) (l : m < length k₀) where
  pub put-start : InPut k m t k₀ k₀ t (k + 1)
  put-start = record {
    from = omega arith;
    upto = omega arith;
    long = refl;
    front = front-is (k + 1) (knot_at k t k₀) k₀ (omega arith) (λ j h. knot-low k t k₀ j (omega arith));
    next = knot-here k t k₀;
  }

  pub put-more : (k₁ : List Float) (carry : Float) (i : ℕ) → InPut k m t k₀ k₁ carry i → i ≤ m → length (set k₁ i carry) ≡ length k₀ → InPut k m t k₀ (set k₁ i carry) (at k₁ i) (i + 1)
  put-more k₁ carry i I h L =
      let F = I.from in
      record {
        from = omega arith;
        upto = omega arith;
        long = L;
        front = store-more i (knot_at k t k₀) k₀ k₁ carry (omega arith) I.front I.next;
        next = ap (λ (xs : List Float). at xs i) I.front ∙ (behind i (knot_at k t k₀) k₀ (omega arith) ∙ knot-high k t k₀ i F);
      }

  pub put-end : (k₁ : List Float) (carry : Float) (i : ℕ) → InPut k m t k₀ k₁ carry i → m < i → k₁ ≡ tabulate (m + 1) (knot_at k t k₀) ++ drop (m + 1) k₀
  put-end k₁ carry i I h =
      let U = I.upto in
      let e : i ≡ m + 1 = omega arith in
      subst (λ (j : ℕ). k₁ ≡ tabulate j (knot_at k t k₀) ++ drop j k₀) e I.front
