-- `basis::basis::table` meets its contract.
-- Assumes nothing.
use Prim.Native.Nat.{◌+◌, ◌-◌, ◌≤◌}
use mathlib.Core.Path.{◌≡◌}
use lib.ListN.{length}
use Rattle.doubles.specs.Run.{at}
use Rattle.basis.specs.Basis.{TableDone, left_of, right_of}
use Rattle.basis.proofs.Tables.{Agree}
use Rattle.basis.proofs.basis.table.Given as goal

abbrev pub invariant-loop-j : goal.invariant-loop-j
invariant-loop-j l = record {
  upto : l.j ≤ l.p + 1;
  long-left : length l.left ≡ 65;
  long-right : length l.right ≡ 65;
  left : Agree (l.j - 1) (λ k. at l.left k) (left_of l.knots l.span l.u);
  right : Agree (l.j - 1) (λ k. at l.right k) (right_of l.knots l.span l.u);
  table : TableDone l.j (left_of l.knots l.span l.u) (right_of l.knots l.span l.u) l.ndu;
}
