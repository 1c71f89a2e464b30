-- `elevation::extract::extract` meets its contract.
-- Assumes nothing.
use Prim.Native.Nat.{◌+◌}
use lib.ListN.{length}
use Rattle.insertion.specs.Fold.{insert_all}
use Rattle.edits.specs.Work.{knots_from, points_from, weights_from}
use Rattle.elevation.specs.Breaks.{breaks_of, missing_all}
use Rattle.elevation.specs.Passes.{breaks_left}
use Rattle.elevation.proofs.Extracting.{Extracting}
use Rattle.elevation.proofs.extract.extract.Given as goal

abbrev pub invariant-loop-t : goal.invariant-loop-t
invariant-loop-t l = Extracting l.p l.rational
    (insert_all l.p l.rational l.n (knots_from l.a l.p l.n l.initial.work) (points_from l.n l.initial.work) (weights_from l.rational l.n l.initial.work) (missing_all l.p l.knots (breaks_of l.p l.n l.knots)))
    (l.n + length (missing_all l.p l.knots (breaks_of l.p l.n l.knots))) l.a l.knots l.initial.work l.work l.count (breaks_left l.t-iterator)
