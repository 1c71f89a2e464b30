-- The answers of an edit, and that any two which its contract permits coincide.
-- Assumes nothing.
use Rattle.std.specs.Prelude.{Result, Ok, Err}
use Prim.Native.Nat.{ℕ}
use mathlib.Core.Path.{◌≡◌, refl, sym, ◌∙◌, ap, subst}
use mathlib.Core.List.{List}
use mathlib.Core.Bool.{cond}
use lib.Dec.{eqb}
use lib.Ieee.{Float}
use borrow.Author.Tests.{eq-eqb}
use Rattle.knots.specs.Refusal.{checked}
use Rattle.knots.specs.Clear.{zeros}
use Rattle.knots.specs.declared.refusal.Refusal.{Refusal}
use Rattle.knots.proofs.Refusals.{stop, stopped_by}
use Rattle.edits.specs.Outcome.{Outcome, gives, refuses}
use Rattle.edits.specs.Whole.{answer_of, knots_in, points_in, weights_in, EditMeets}
use Rattle.edits.specs.Passes.{OutMeets}
use Rattle.edits.specs.declared.answer.FormedCurve.{FormedCurve}

-- an edit that is refused at its start, or comes to what it aims at
module _ (p n : ℕ) (start : Refusal) (aim : Outcome) (a b c d : ℕ) (s₁ : List Float) (S : s₁ ≡ zeros d) where
  abbrev whole : Outcome
  whole = cond (eqb start.number 0) aim (refuses start)

  -- a refusal, wherever it comes from
  pub edit-refused : (r : Refusal) → whole ≡ refuses r → (k₁ p₁ w₁ : List Float) → k₁ ≡ zeros a → p₁ ≡ zeros b → w₁ ≡ zeros c → EditMeets p n whole a b c d k₁ p₁ w₁ s₁ (Err r)
  edit-refused r e k₁ p₁ w₁ K P W = record {
    answer = ap (answer_of p n) (sym e);
    knots = K ∙ ap (knots_in a) (sym e);
    points = P ∙ ap (points_in b) (sym e);
    weights = W ∙ ap (weights_in c) (sym e);
    scratch = S;
  }

  pub edit-early : (r : Refusal) → Err r ≡ checked start → (k₁ p₁ w₁ : List Float) → k₁ ≡ zeros a → p₁ ≡ zeros b → w₁ ≡ zeros c → EditMeets p n whole a b c d k₁ p₁ w₁ s₁ (Err r)
  edit-early r e = edit-refused r (simp (stop _ e) (ap refuses (sym (stopped_by _ e).0)))

  module _ (z : start.number ≡ 0) (k₁ p₁ w₁ : List Float) where
    opened : whole ≡ aim
    opened = simp (eq-eqb start.number 0 z)

    pub edit-late : (r : Refusal) → OutMeets a b c aim k₁ p₁ w₁ (Err r) → (k₂ p₂ w₂ : List Float) → k₂ ≡ zeros a → p₂ ≡ zeros b → w₂ ≡ zeros c → EditMeets p n whole a b c d k₂ p₂ w₂ s₁ (Err r)
    unfolding OutMeets
    edit-late r m = edit-refused r (opened ∙ go aim m)
      where
        go : (o : Outcome) → OutMeets a b c o k₁ p₁ w₁ (Err r) → o ≡ refuses r
        go (gives ks ps ws) x = cc
        go (refuses y) x = cc

    pub edit-formed : OutMeets a b c aim k₁ p₁ w₁ (Ok tt) → (i : ℕ) → i ≡ n → EditMeets p n whole a b c d k₁ p₁ w₁ s₁ (Ok (record { degree = p; count = i }))
    unfolding OutMeets
    edit-formed m i I =
        subst
        (λ (j : ℕ). EditMeets p n whole a b c d k₁ p₁ w₁ s₁ (Ok (record { degree = p; count = j }))) (sym I)
        (subst (λ (o : Outcome). EditMeets p n o a b c d k₁ p₁ w₁ s₁ (Ok (record { degree = p; count = n }))) (sym opened) (go aim m))
      where
        go : (o : Outcome) → OutMeets a b c o k₁ p₁ w₁ (Ok tt) → EditMeets p n o a b c d k₁ p₁ w₁ s₁ (Ok (record { degree = p; count = n }))
        go (gives ks ps ws) x = record { answer = refl; knots = x.1; points = x.2; weights = x.3; scratch = S }
        go (refuses y) x = cc

-- any two outcomes that the contract permits coincide
pub edit-unique : (p n : ℕ) (goal : Outcome) (a b c d : ℕ) (k₁ p₁ w₁ s₁ k₂ p₂ w₂ s₂ : List Float) (r q : Result FormedCurve Refusal)
    → EditMeets p n goal a b c d k₁ p₁ w₁ s₁ r → EditMeets p n goal a b c d k₂ p₂ w₂ s₂ q → (r ≡ q) × (k₁ ≡ k₂) × (p₁ ≡ p₂) × (w₁ ≡ w₂) × (s₁ ≡ s₂)
edit-unique p n goal a b c d k₁ p₁ w₁ s₁ k₂ p₂ w₂ s₂ r q M N =
    (M.answer ∙ sym N.answer, M.knots ∙ sym N.knots, M.points ∙ sym N.points, M.weights ∙ sym N.weights, M.scratch ∙ sym N.scratch)

-- a check that refuses nothing
pub checked-none : (r : Refusal) → r.number ≡ 0 → checked r ≡ Ok tt
unfolding checked
checked-none r z = simp (eq-eqb r.number 0 z)
