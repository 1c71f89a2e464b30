-- Both ends are inserted in scratch: what the calls leave is what the fold says.
-- Assumes nothing.
use Rattle.std.specs.Prelude.{Result, Ok, Err}
use Prim.Native.Nat.{ℕ, ◌+◌, ◌*◌, ◌≤◌}
use mathlib.Core.Bool.{Bool, true, false}
use mathlib.Core.Path.{◌≡◌, refl, sym, ◌∙◌, ap, ap₂, subst}
use mathlib.Core.List.{List}
use native.Mathlib.Omega.{arith}
use lib.ListN.{length, replicate, length-replicate}
use lib.Ieee.{Float}
use Rattle.knots.specs.Refusal.{checked}
use Rattle.knots.specs.Knots.{ValidKnots}
use Rattle.knots.specs.Curve.{count_of, ValidCurve}
use Rattle.knots.specs.declared.refusal.Refusal.{Refusal}
use Rattle.edits.specs.Counts.{missing_of}
use Rattle.edits.specs.Rows.{given}
use Rattle.insertion.specs.Fold.{insert_all}
use Rattle.edits.specs.Outcome.{Outcome, gives, refuses}
use Rattle.edits.specs.Whole.{given_of}
use Rattle.edits.specs.Work.{laid, lay_outcome, refusal_of, work_in}
use Rattle.insertion.specs.Times.{times_outcome}
use Rattle.edits.proofs.RowReads.{given-fits}
use Rattle.edits.proofs.Starting.{thirds}
use Rattle.edits.proofs.WorkCalls.{lay-fits}
use Rattle.insertion.proofs.ListResult.{made, and_then, insert-append}
use Rattle.insertion.proofs.Chained.{laid-given, chained, refused-is, given_is}
use Rattle.trimming.specs.Trim.{ends_of}

pub given-long : (g : Bool) (n : ℕ) (ws : List Float) → (g ≡ true → length ws ≡ n) → length (given_of g ws) ≡ given g n
given-long true n ws h = h refl
given-long false n ws h = refl

module _ (a p : ℕ) (ks ps : List Float) (g : Bool) (ws : List Float) (v : ValidCurve p ks ps g ws) (lo hi : Float) (Z : List Float)
    (x : (count_of ps + (missing_of p ks lo + missing_of p ks hi)) * 4 ≤ a) (y : a + (count_of ps + (missing_of p ks lo + missing_of p ks hi) + p + 1) ≤ length Z) where
  abbrev n : ℕ
  n = count_of ps

  abbrev X : ℕ
  X = missing_of p ks lo

  abbrev Y : ℕ
  Y = missing_of p ks hi

  abbrev W : List Float
  W = given_of g ws

  abbrev l : ℕ
  l = length Z

  abbrev goal : Outcome
  goal = insert_all p g n ks ps W (ends_of p ks lo hi)

  abbrev first : Outcome
  first = insert_all p g n ks ps W (replicate X lo)

  -- ---- the curve is laid
  lays : lay_outcome ks ps g ws a l ≡ gives ks ps ws
  lays =
      lay-fits ks ps g ws a l (given-fits g n (length ws) v.controls.weights) (omega arith) (omega (arith, v.knots.long))

  pub laid_none : (r : Result Unit Refusal) → r ≡ checked (refusal_of (lay_outcome ks ps g ws a l)) → r ≡ Ok tt
  unfolding checked
  laid_none r e = e ∙ ap (λ (o : Outcome). checked (refusal_of o)) lays

  laid-run : (w : List Float) → w ≡ work_in a g Z (lay_outcome ks ps g ws a l) → w ≡ laid a Z ks ps g W
  laid-run w e = e ∙ (ap (work_in a g Z) lays ∙ laid-given a Z ks ps g ws)

  -- ---- the first end
  module _ (w₁ w₂ : List Float) (r₁ : Result Unit Refusal) (E₁ : w₁ ≡ work_in a g Z (lay_outcome ks ps g ws a l)) (m : ℕ) (M : m ≡ X)
      (R₁ : r₁ ≡ checked (refusal_of (times_outcome p n m a w₁ g lo))) (Z₁ : w₂ ≡ work_in a g w₁ (times_outcome p n m a w₁ g lo)) where
    after : (r₁ ≡ checked (refusal_of first)) × (w₂ ≡ work_in a g Z first)
    after =
        chained a p n g Z ks ps W v.knots (thirds v.triples) (given-long g n ws v.controls.weights) X lo (omega arith) (omega arith) w₁ w₂ r₁ (laid-run w₁ E₁)
        (R₁ ∙ ap (λ (k : ℕ). checked (refusal_of (times_outcome p n k a w₁ g lo))) M) (Z₁ ∙ ap (λ (k : ℕ). work_in a g w₁ (times_outcome p n k a w₁ g lo)) M)

    joined : goal ≡ and_then first (λ ls qs vs. insert_all p g (n + length (replicate X lo)) ls qs vs (replicate Y hi))
    unfolding ends_of
    joined = insert-append p g n ks ps W (replicate X lo) (replicate Y hi)

    pub first-refused : (r : Refusal) → r₁ ≡ Err r → (Err r ≡ checked (refusal_of goal)) × (w₂ ≡ work_in a g Z goal)
    first-refused r h =
        let f = refused-is p g n ks ps W (replicate X lo) r (sym h ∙ after.0) in
        let e : goal ≡ refuses r = joined ∙ ap (λ (o : Outcome). and_then o (λ ls qs vs. insert_all p g (n + length (replicate X lo)) ls qs vs (replicate Y hi))) f in
        (sym h ∙ (after.0 ∙ ap (λ (o : Outcome). checked (refusal_of o)) (f ∙ sym e)), after.1 ∙ (ap (work_in a g Z) f ∙ ap (work_in a g Z) (sym e)))

    -- ---- the second
    pub second-done : r₁ ≡ Ok tt → (m' : ℕ) → m' ≡ Y → (w₃ : List Float) (r₂ : Result Unit Refusal) → r₂ ≡ checked (refusal_of (times_outcome p (n + m) m' a w₂ g hi))
        → w₃ ≡ work_in a g w₂ (times_outcome p (n + m) m' a w₂ g hi)
        → (r₂ ≡ checked (refusal_of goal)) × (w₃ ≡ work_in a g Z goal)
    second-done z m' M' w₃ r₂ R₂ Z₂ =
        let G = given_is p g n ks ps W (replicate X lo) (sym z ∙ after.0) in
        let f = G.is in
        let D = made p g n ks ps W (replicate X lo) G.knots G.points G.weights v.knots f in
        let k = length-replicate X lo in
        let s : n + length (replicate X lo) ≡ n + X = ap (λ (i : ℕ). n + i) k in
        let e : goal ≡ insert_all p g (n + X) G.knots G.points G.weights (replicate Y hi) =
        joined
        ∙ (ap (λ (o : Outcome). and_then o (λ ls qs vs. insert_all p g (n + length (replicate X lo)) ls qs vs (replicate Y hi))) f
        ∙ ap (λ (i : ℕ). insert_all p g i G.knots G.points G.weights (replicate Y hi)) s)
        in
        let c = chained a p (n + X) g Z G.knots G.points G.weights (subst (λ (i : ℕ). ValidKnots p i G.knots) s D.valid)
        (D.points (thirds v.triples) ∙ ap (λ (i : ℕ). i * 3) s) (D.weights (given-long g n ws v.controls.weights) ∙ ap (given g) s) Y hi (omega arith) (omega arith) w₂ w₃ r₂
        (after.1 ∙ ap (work_in a g Z) f)
        (R₂ ∙ ap₂ (λ (i j : ℕ). checked (refusal_of (times_outcome p (n + i) j a w₂ g hi))) M M')
        (Z₂ ∙ ap₂ (λ (i j : ℕ). work_in a g w₂ (times_outcome p (n + i) j a w₂ g hi)) M M') in
        (c.0 ∙ ap (λ (o : Outcome). checked (refusal_of o)) (sym e), c.1 ∙ ap (work_in a g Z) (sym e))
