-- `edits::rows::lift_in` meets its contract.
-- Assumes nothing.
use Rattle.std.proofs.Common.{◌∙◌, ap}
use Rattle.std.specs.Prelude.{Err}
use native.Mathlib.Omega.{arith}
use Rattle.knots.specs.Refusal.{checked}
use Rattle.knots.specs.Clear.{zeros}
use Rattle.edits.specs.Control.{vector_of}
use Rattle.edits.proofs.LiftCall.{lift-short, lift-zeros, lift-19, lift-none, lift-run, lift-moved, lift-none-at, positive}
use Rattle.edits.proofs.rows.lift_in.Goals as goal

pub returns-then-n-work : goal.returns-then-n-work
unfolding checked
returns-then-n-work c = let a = c.args in
    let t = c.if-n-work.true in
    let e = lift-short a.scale a.n a.rational a.work.now (omega arith) in
    record {
      value = ap Err c.refuse.ensures ∙ ap checked e;
      work_after = lift-zeros a.scale a.n a.rational a.work.now _ e (λ z. omega arith) _ c.clear.ensures;
    }

pub returns-then-n-eq0 : goal.returns-then-n-eq0
unfolding checked
returns-then-n-eq0 c = let a = c.args in
    let t = c.if-n-eq0.true in let o = lift-none-at a.scale a.n a.rational a.work.now t in
    record {
      value = ap checked o.0;
      work_after = o.1;
    }

pub returns-then-not-lift_rows : goal.returns-then-not-lift_rows
unfolding checked
returns-then-not-lift_rows c = let a = c.args in
    let t = c.if-n-work.false in
    let e =
    lift-19
    a.scale a.n a.rational a.work.now (omega arith) _ _
    (lift-moved
    a.scale a.n a.rational a.work.now _ _ _ (positive c.if-n-eq0.false)
    (c.vector_of-o.ensures
    ∙ ap vector_of c.row_at.ensures)
    c.lift_rows.ensures)
    c.if-not-lift_rows.true in
    record {
      value = ap Err c.refuse-then-not-lift_rows.ensures ∙ ap checked e;
      work_after = lift-zeros
          a.scale a.n a.rational a.work.now _ e (λ z. omega arith) _
          (c.clear-then-not-lift_rows.ensures ∙ ap zeros c.work-2-1.given);
    }

pub returns : goal.returns
unfolding checked
returns c = let a = c.args in
    let t = c.if-n-work.false in
    record {
      value = ap checked (lift-none
          a.scale a.n a.rational a.work.now (omega arith) _ _
          (lift-moved
          a.scale a.n a.rational a.work.now _ _ _ (positive c.if-n-eq0.false)
          (c.vector_of-o.ensures ∙ ap vector_of c.row_at.ensures)
          c.lift_rows.ensures)
          c.if-not-lift_rows.false);
      work_after = lift-run
          a.scale a.n a.rational a.work.now (omega arith) _ _
          (lift-moved
          a.scale a.n a.rational a.work.now _ _ _ (positive c.if-n-eq0.false)
          (c.vector_of-o.ensures ∙ ap vector_of c.row_at.ensures)
          c.lift_rows.ensures)
          c.if-not-lift_rows.false c.work-2-1.given;
    }
