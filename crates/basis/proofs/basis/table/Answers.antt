-- `basis::basis::table` meets its contract.
-- Assumes nothing.
use Prim.Native.Nat.{◌+◌, ◌-◌}
use mathlib.Core.Path.{◌≡◌, refl, ◌∙◌}
use native.Mathlib.Omega.{arith}
use lib.ListN.{set, length-set}
use lib.Ieee.{binary64, sub}
use Rattle.doubles.specs.Run.{at}
use Rattle.basis.specs.Basis.{TableDone, left_of, right_of}
use Rattle.basis.proofs.Tables.{Agree, agree-more, table-start, table_more}
use Rattle.basis.proofs.basis.table.Goals as goal
use Rattle.basis.proofs.basis.table.Goals.{After-column}

pub loop-j-init : goal.loop-j-init
loop-j-init c = let a = c.args in record {
  upto = omega arith;
  long-left = refl;
  long-right = refl;
  left = λ k p q. absurd (omega arith);
  right = λ k p q. absurd (omega arith);
  table = table-start (left_of a.knots.now a.span a.u) (right_of a.knots.now a.span a.u) a.ndu.now (omega arith);
}

-- the differences of this turn's knots
left : (c : After-column)
    → Agree c.loop-j.j (λ k. at (set c.loop-j.left c.loop-j.j (sub binary64 c.args.u (at c.args.knots.now (c.args.span + 1 - c.loop-j.j)))) k) (left_of c.args.knots.now c.args.span c.args.u)
unfolding left_of
left c = agree-more c.loop-j.j c.loop-j.left _ (left_of c.args.knots.now c.args.span c.args.u) (omega arith) c.loop-j.invariant.left refl

right : (c : After-column)
    → Agree c.loop-j.j (λ k. at (set c.loop-j.right c.loop-j.j (sub binary64 (at c.args.knots.now (c.args.span + c.loop-j.j)) c.args.u)) k) (right_of c.args.knots.now c.args.span c.args.u)
unfolding right_of
right c = agree-more c.loop-j.j c.loop-j.right _ (right_of c.args.knots.now c.args.span c.args.u) (omega arith) c.loop-j.invariant.right refl

-- the table with this turn's column
more : (c : After-column) → TableDone (c.loop-j.j + 1) (left_of c.args.knots.now c.args.span c.args.u) (right_of c.args.knots.now c.args.span c.args.u) c.column.new.ndu
more c = let lp = c.loop-j in
    let a = c.args in
    table_more (left_of a.knots.now a.span a.u) (right_of a.knots.now a.span a.u) lp.j _ _ lp.ndu _ (omega arith) (left c) (right c) lp.invariant.table c.column.ensures

pub loop-j-preserved : goal.loop-j-preserved
loop-j-preserved c = let s = (goal.at.loop-j-preserved c).After-column in
    let e : c.loop-j.j ≡ c.loop-j.j + 1 - 1 = omega arith in
    record {
      upto = omega arith;
      long-left = length-set c.loop-j.left c.loop-j.j _ ∙ c.loop-j.invariant.long-left;
      long-right = length-set c.loop-j.right c.loop-j.j _ ∙ c.loop-j.invariant.long-right;
      left = rw (← e) (left s);
      right = rw (← e) (right s);
      table = more s;
    }

pub returns : goal.returns
returns c = let e : c.loop-j.j ≡ c.args.p + 1 = omega arith in rw (← e) c.loop-j.invariant.table

pub returns-2 : goal.returns-2
returns-2 c = let e : c.loop-j.j ≡ c.args.p = omega arith in rw (← e) (more (goal.at.returns-2 c).After-column)
