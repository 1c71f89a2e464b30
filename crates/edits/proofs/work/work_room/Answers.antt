-- `edits::work::work_room` meets its contract.
-- Assumes nothing.
use Rattle.std.proofs.Common.{◌∙◌, ap}
use Rattle.std.specs.Prelude.{Err}
use mathlib.Core.Logic.{inl, inr}
use native.Mathlib.Omega.{arith}
use Rattle.knots.specs.Refusal.{checked}
use Rattle.edits.proofs.WorkCalls.{work-short, work-fits}
use Rattle.edits.proofs.work.work_room.Goals as goal

pub returns-then-n-a : goal.returns-then-n-a
unfolding checked
returns-then-n-a c = let a = c.args in
    let t = c.if-n-a.true in ap Err c.refuse.ensures ∙ ap checked (work-short a.n a.m a.a a.l (inl (omega arith)))

pub returns-then-a-l : goal.returns-then-a-l
unfolding checked
returns-then-a-l c = let a = c.args in
    let t = c.if-a-l.true in ap Err c.refuse-then-a-l.ensures ∙ ap checked (work-short a.n a.m a.a a.l (inr (omega arith)))

pub returns-then-m-l : goal.returns-then-m-l
unfolding checked
returns-then-m-l c = let a = c.args in
    let t = c.if-m-l.true in
    let u = c.if-a-l.false in ap Err c.refuse-then-m-l.ensures ∙ ap checked (work-short a.n a.m a.a a.l (inr (omega arith)))

pub returns : goal.returns
unfolding checked
returns c = let a = c.args in
    let t = c.if-m-l.false in
    let u = c.if-a-l.false in
    let v = c.if-n-a.false in ap checked (work-fits a.n a.m a.a a.l (omega arith) (omega arith))
