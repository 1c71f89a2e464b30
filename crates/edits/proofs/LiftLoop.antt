-- The loop that brings rows into homogeneous form: what is there after so many turns.
-- Assumes nothing.
use Prim.Native.Nat.{ℕ, ◌+◌, ◌≤◌, ◌<◌}
use mathlib.Core.Bool.{Bool, true, false}
use mathlib.Core.Path.{◌≡◌, refl, sym, ◌∙◌, ap, ap₂}
use mathlib.Core.Logic.{inl, inr}
use mathlib.Core.List.{List}
use native.Mathlib.Omega.{arith}
use lib.ListN.{length}
use lib.Ieee.{Float, binary64, div}
use Rattle.doubles.specs.Run.{at}
use Rattle.doubles.specs.Value.{one+}
use Rattle.knots.specs.Below.{all_below}
use Rattle.knots.proofs.Below.{all_none, all_more, all-stops}
use Rattle.runs.specs.Scale.{weight_of}
use Rattle.runs.specs.declared.vector.Vector.{Vector}
use Rattle.edits.specs.Control.{lift_of, is_lifted}
use Rattle.edits.specs.Rows.{lift_at}
use Rattle.edits.specs.Work.{points_from, weights_from}
use Rattle.edits.specs.Passes.{row_of, stored, lift_row, Untouched, RowPut, LiftDone}
use Rattle.edits.specs.declared.control.Control.{Control}
use Rattle.edits.proofs.RowStores.{untouched-row, InRows, rows_start, rows_more}
use Rattle.edits.proofs.RowReads.{row-point, row-weight}

-- ---- into homogeneous form
pub lift-stored : (m : Float) (o : Vector) (ps : List Float) (g : Bool) (ws : List Float) (i : ℕ) → stored g (lift_at m o ps g ws i) ≡ lift_at m o ps g ws i
unfolding lift_at lift_of weight_of
lift-stored m o ps true ws i = refl
lift-stored m o ps false ws i = refl

lift-from : (g : Bool) (n : ℕ) (xs : List Float) (m : Float) (o : Vector) (i : ℕ) → i < n → lift_row m o g (row_of g xs i) ≡ lift_at m o (points_from n xs) g (weights_from g n xs) i
unfolding lift_at weight_of
lift-from true n xs m o i l = ap₂ (λ (v : Vector) (w : Float). lift_of o v (div binary64 w m)) (sym (row-point true n xs i l)) (sym (row-weight n xs i l))
lift-from false n xs m o i l = ap (λ (v : Vector). lift_of o v one+) (sym (row-point false n xs i l))

-- i controls are there
pub record InLift (g : Bool) (h : ℕ → Control) (n : ℕ) (r₀ r₁ : List Float) (i : ℕ) : Type 0 where
  pub upto : i ≤ n
  pub good : all_below (λ j. is_lifted (h j)) i ≡ true
  pub done : InRows g h r₀ r₁ i

module _ (g : Bool) (o : Vector) (m : Float) (n : ℕ) (r₀ : List Float) where
  abbrev lifts : ℕ → Control
  lifts = lift_at m o (points_from n r₀) g (weights_from g n r₀)

  pub lift-start : InLift g lifts n r₀ r₀ 0
  lift-start = record { upto = omega arith; good = all_none (λ j. is_lifted (lifts j)); done = rows_start g lifts r₀ }

  module _ (r₁ : List Float) (i : ℕ) (I : InLift g lifts n r₀ r₁ i) where
    module _ (b : i < n) (q : Control) (Q : q ≡ lift_row m o g (row_of g r₁ i)) where
      pub lift-is : q ≡ lifts i
      lift-is =
          Q ∙ (ap (lift_row m o g) (untouched-row g i r₁ r₀ I.done.rest) ∙ lift-from g n r₀ m o i b)

      pub lift-stop : is_lifted q ≡ false → LiftDone g lifts n r₀ r₁ false
      lift-stop e = record {
        answer = all-stops (λ j. is_lifted (lifts j)) n i b (ap is_lifted (sym lift-is) ∙ e);
        rows = λ z. let y : ◌≡◌ {A = ℕ} 0 1 = cc in absurd (omega arith);
        rest = λ j u. I.done.rest j (less j u);
      }
        where
          less : (j : ℕ) → Untouched g n j → Untouched g i j
          less j (inl u) = inl (omega arith)
          less j (inr u) = inr u

      pub lift-more : is_lifted q ≡ true → (r₂ : List Float) → length r₂ ≡ length r₁ → RowPut g i q r₁ r₂ → InLift g lifts n r₀ r₂ (i + 1)
      lift-more e r₂ L P = record {
        upto = omega arith;
        good = all_more (λ j. is_lifted (lifts j)) i I.good (ap is_lifted (sym lift-is) ∙ e);
        done = rows_more g lifts r₀ r₁ i I.done q (ap (stored g) lift-is ∙ lift-stored m o (points_from n r₀) g (weights_from g n r₀) i) r₂ L P;
      }
