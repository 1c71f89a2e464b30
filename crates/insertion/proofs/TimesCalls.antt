-- One knot inserted many times into a curve in a lent run: its refusals, and what it leaves.
-- Assumes nothing.
use Rattle.std.specs.Prelude.{Ok, Err}
use Prim.Native.Nat.{ℕ, ◌+◌, ◌*◌, ◌≤◌, ◌<◌}
use mathlib.Core.Bool.{Bool}
use mathlib.Core.Path.{◌≡◌, refl, sym, ◌∙◌, ap}
use mathlib.Core.Logic.{◌⊎◌}
use mathlib.Core.List.{List}
use lib.ListN.{length, replicate}
use lib.Dec.{eqb}
use lib.Ieee.{Float}
use borrow.Author.Tests.{eq-eqb}
use Rattle.knots.specs.Refusal.{refuse, checked}
use Rattle.knots.specs.declared.refusal.Reason.TheVariants.{LengthBad}
use Rattle.knots.specs.Knots.{knot_refusal, ValidKnots}
use Rattle.knots.specs.declared.refusal.Refusal.{Refusal}
use Rattle.knots.proofs.Refusals.{or_else-none, stop, stopped_by}
use Rattle.knots.proofs.Valid.{valid}
use Rattle.insertion.specs.Fold.{insert_all}
use Rattle.edits.specs.Outcome.{Outcome, gives, refuses}
use Rattle.edits.specs.Work.{knots_from, points_from, weights_from, work_room, refusal_of, work_in}
use Rattle.insertion.specs.Times.{times_start, times_outcome}
use Rattle.insertion.specs.Passes.{ListMeets}
use Rattle.edits.proofs.RunWithCurve.{laid-holds}
use Rattle.edits.proofs.WorkCalls.{work-short, work-open}
use Rattle.insertion.proofs.Chained.{refuses-some}

module _ (p n m a : ℕ) (xs : List Float) where
  pub times-short : (a < (n + m) * 4) ⊎ (length xs < a + (n + m + p + 1)) → refuse LengthBad ≡ times_start p n m a xs
  unfolding times_start
  times-short h =
      let e = work-short (n + m) (n + m + p + 1) a (length xs) h in
      simp (ap (λ (r : Refusal). eqb r.number 0) (sym e)) e

  pub times-open : (times_start p n m a xs).number ≡ 0 → ValidKnots p n (knots_from a p n xs) × (((n + m) * 4 ≤ a) × (a + (n + m + p + 1) ≤ length xs))
  unfolding times_start
  times-open h =
      let u = or_else-none (work_room (n + m) (n + m + p + 1) a (length xs)) (knot_refusal p n (knots_from a p n xs)) h in
      (valid p n (knots_from a p n xs) u.1, work-open (n + m) (n + m + p + 1) a (length xs) u.0)

  module _ (g : Bool) (t : Float) where
    pub times-early : (r : Refusal) → Err r ≡ checked (times_start p n m a xs) → times_outcome p n m a xs g t ≡ refuses r
    unfolding times_outcome
    times-early r e = simp (stop _ e) (ap refuses (sym (stopped_by _ e).0))

    module _ (z : (times_start p n m a xs).number ≡ 0) (w₁ : List Float) where
      abbrev goal : Outcome
      goal = insert_all p g n (knots_from a p n xs) (points_from n xs) (weights_from g n xs) (replicate m t)

      opened : times_outcome p n m a xs g t ≡ goal
      unfolding times_outcome
      opened = simp (eq-eqb (times_start p n m a xs).number 0 z)

      pub times-late : (r : Refusal) → ListMeets a p (n + m) g xs goal w₁ (Err r) → times_outcome p n m a xs g t ≡ refuses r
      unfolding ListMeets
      times-late r M = opened ∙ go goal M
        where
          go : (o : Outcome) → ListMeets a p (n + m) g xs o w₁ (Err r) → o ≡ refuses r
          go (gives ks ps ws) w = cc
          go (refuses x) w = cc

      pub times-some : (r : Refusal) → ListMeets a p (n + m) g xs goal w₁ (Err r) → r.number ≡ 0 → ⊥
      unfolding ListMeets
      times-some r M = refuses-some p g n (knots_from a p n xs) (points_from n xs) (weights_from g n xs) (replicate m t) r (sym opened ∙ times-late r M)

      pub times-formed : ListMeets a p (n + m) g xs goal w₁ (Ok tt) → length w₁ ≡ length xs → (Ok tt ≡ checked (refusal_of (times_outcome p n m a xs g t))) × (w₁ ≡ work_in a g xs (times_outcome p n m a xs g t))
      unfolding ListMeets checked
      times-formed M L = rw opened (go goal M)
        where
          room : ((n + m) * 4 ≤ a) × (a + (n + m + p + 1) ≤ length xs)
          room = (times-open z).1

          go : (o : Outcome) → ListMeets a p (n + m) g xs o w₁ (Ok tt) → (Ok tt ≡ checked (refusal_of o)) × (w₁ ≡ work_in a g xs o)
          go (gives ks ps ws) w = (refl, laid-holds a p (n + m) g ks ps ws xs w₁ L room.0 room.1 w.1)
          go (refuses x) w = cc
