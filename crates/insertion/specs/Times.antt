-- One knot inserted many times into a curve that stands in a lent run.
-- Assumes nothing.
use Rattle.std.specs.Prelude.{ℕ, ◌+◌, Bool, cond, List, length, replicate, eqb, Float}
use Rattle.knots.specs.Refusal.{or_else}
use Rattle.knots.specs.Knots.{knot_refusal}
use Rattle.knots.specs.declared.refusal.Refusal.{Refusal}
use Rattle.edits.specs.Outcome.{Outcome, refuses}
use Rattle.edits.specs.Work.{knots_from, points_from, weights_from, work_room}
use Rattle.insertion.specs.Fold.{insert_all}

-- the knot t is inserted m times into the curve of degree p and n points that stands in a run xs
module _ (p n m a : ℕ) (xs : List Float) where
  -- 30, and 1 to 7 of the knots that stand there
  unfoldable pub times_start : Refusal
  times_start = or_else (work_room (n + m) (n + m + p + 1) a (length xs)) (knot_refusal p n (knots_from a p n xs))

  unfoldable pub times_outcome : Bool → Float → Outcome
  times_outcome g t =
      cond (eqb times_start.number 0) (insert_all p g n (knots_from a p n xs) (points_from n xs) (weights_from g n xs) (replicate m t)) (refuses times_start)
