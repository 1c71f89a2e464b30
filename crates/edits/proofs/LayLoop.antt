-- The loop that lays a curve's points and weights into rows: what is there after so many turns.
-- Assumes nothing.
use Prim.Native.Nat.{ℕ, ◌+◌, ◌≤◌, ◌<◌}
use mathlib.Core.Bool.{Bool, true, false}
use mathlib.Core.Path.{◌≡◌, refl, ◌∙◌, ap}
use mathlib.Core.List.{List}
use native.Mathlib.Omega.{arith}
use lib.ListN.{length}
use lib.Ieee.{Float}
use Rattle.runs.specs.Weight.{weight_at}
use Rattle.edits.specs.Passes.{given_row, stored, RowPut}
use Rattle.edits.specs.declared.control.Control.{Control}
use Rattle.edits.proofs.RowStores.{InRows, rows_more}

-- ---- a curve's points and weights as rows
given-stored : (ps : List Float) (g : Bool) (ws : List Float) (i : ℕ) → stored g (given_row ps g ws i) ≡ given_row ps g ws i
unfolding weight_at
given-stored ps true ws i = refl
given-stored ps false ws i = refl

module _ (n : ℕ) (ps : List Float) (g : Bool) (ws r₀ : List Float) where
  pub record InLay (r₁ : List Float) (i : ℕ) : Type 0 where
    pub upto : i ≤ n
    pub done : InRows g (given_row ps g ws) r₀ r₁ i

  pub lay-more : (r₁ : List Float) (i : ℕ) → InLay r₁ i → i < n → (q : Control) → q ≡ given_row ps g ws i → (r₂ : List Float) → length r₂ ≡ length r₁ → RowPut g i q r₁ r₂ → InLay r₂ (i + 1)
  lay-more r₁ i I b q Q r₂ L P = record { upto = omega arith; done = rows_more g (given_row ps g ws) r₀ r₁ i I.done q (ap (stored g) Q ∙ given-stored ps g ws i) r₂ L P }
