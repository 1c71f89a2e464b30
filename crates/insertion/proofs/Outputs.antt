-- An outcome that stands in a run goes to the outputs.
-- Assumes nothing.
use Rattle.std.specs.Prelude.{Result, Ok, Err}
use Prim.Native.Nat.{ℕ, ◌+◌, ◌*◌}
use mathlib.Core.Bool.{Bool}
use mathlib.Core.Path.{◌≡◌, ◌∙◌, ap, subst}
use mathlib.Core.List.{List}
use native.Mathlib.Nat.{add-zero}
use lib.ListN.{drop}
use lib.Ieee.{Float}
use Rattle.knots.specs.declared.refusal.Refusal.{Refusal}
use Rattle.runs.specs.Lent.{padded}
use Rattle.insertion.specs.Fold.{insert_all}
use Rattle.edits.specs.Outcome.{Outcome, gives, refuses}
use Rattle.edits.specs.Work.{knots_from, points_from, weights_from}
use Rattle.edits.specs.Passes.{OutMeets}
use Rattle.insertion.specs.Passes.{ListMeets}

module _ (a p n : ℕ) (g : Bool) (w₀ w₁ : List Float) (A B C : ℕ) (k₁ p₁ v₁ : List Float) where
  out-refused' : (r : Refusal) (goal : Outcome) → ListMeets a p n g w₀ goal w₁ (Err r) → OutMeets A B C goal k₁ p₁ v₁ (Err r)
  unfolding ListMeets OutMeets
  out-refused' r (gives ks ps ws) m = cc
  out-refused' r (refuses x) m = m

  out-formed' : (goal : Outcome) → ListMeets a p n g w₀ goal w₁ (Ok tt) → k₁ ≡ padded A (knots_from (a + 0) p n w₁) → p₁ ≡ padded B (points_from n (drop (0 * 4) w₁))
      → v₁ ≡ padded C (weights_from g n (drop (0 * 4) w₁))
      → (q : Result Unit Refusal) → q ≡ Ok tt → OutMeets A B C goal k₁ p₁ v₁ q
  unfolding ListMeets OutMeets
  out-formed' (gives ks ps ws) m K P W q Q = (
    Q,
    K ∙ ap (padded A) (ap (λ (i : ℕ). knots_from i p n w₁) (add-zero a) ∙ m.1.knots),
    P ∙ ap (padded B) m.1.points,
    W ∙ ap (padded C) m.1.weights,
  )
  out-formed' (refuses x) m K P W q Q = cc

  pub out-refused : (r : Refusal) (goal aim : Outcome) → goal ≡ aim → ListMeets a p n g w₀ goal w₁ (Err r) → OutMeets A B C aim k₁ p₁ v₁ (Err r)
  out-refused r goal aim e m = subst (λ (o : Outcome). OutMeets A B C o k₁ p₁ v₁ (Err r)) e (out-refused' r goal m)

  pub out-formed : (goal aim : Outcome) → goal ≡ aim → ListMeets a p n g w₀ goal w₁ (Ok tt) → k₁ ≡ padded A (knots_from (a + 0) p n w₁) → p₁ ≡ padded B (points_from n (drop (0 * 4) w₁))
      → v₁ ≡ padded C (weights_from g n (drop (0 * 4) w₁))
      → (q : Result Unit Refusal) → q ≡ Ok tt → OutMeets A B C aim k₁ p₁ v₁ q
  out-formed goal aim e m K P W q Q = subst (λ (o : Outcome). OutMeets A B C o k₁ p₁ v₁ q) e (out-formed' goal m K P W q Q)

pub goal-is : (p : ℕ) (g : Bool) (n : ℕ) (ts : List Float) {ks ks' ps ps' ws ws' : List Float} → ks ≡ ks' → ps ≡ ps' → ws ≡ ws' → insert_all p g n ks ps ws ts ≡ insert_all p g n ks' ps' ws' ts
goal-is p g n ts K P W = rw (K, P, W)
