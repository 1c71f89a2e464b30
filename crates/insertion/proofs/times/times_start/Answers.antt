-- `insertion::times::times_start` meets its contract.
-- Assumes nothing.
use Rattle.std.proofs.Common.{◌∙◌, ap, List}
use Rattle.std.specs.Prelude.{Err}
use Rattle.std.proofs.lemmas.Result.{err_from_is_err_and}
use mathlib.Core.Logic.{inl, inr}
use Prim.Native.Nat.{◌+◌}
use native.Mathlib.Omega.{arith}
use lib.ListN.{length}
use lib.Ieee.{Float}
use Rattle.knots.specs.Refusal.{checked}
use Rattle.knots.proofs.Refusals.{let_by, skip, refused-first}
use Rattle.insertion.specs.Times.{times_start}
use Rattle.knots.specs.Knots.{knot_refusal}
use Rattle.edits.proofs.IntoRun.{slice_is}
use Rattle.edits.proofs.WorkCalls.{work-open}
use Rattle.insertion.proofs.TimesCalls.{times-short}
use borrow.Author.Rules.{rules}
use Rattle.insertion.proofs.times.times_start.Goals as goal

pub returns-then-a-l : goal.returns-then-a-l
unfolding checked
returns-then-a-l c = let a = c.args in
    let t = c.if-a-l.true in ap Err c.refuse.ensures ∙ ap checked (times-short a.p a.n a.m a.a a.work.now (inr (omega arith)))

pub returns-then-n-a : goal.returns-then-n-a
unfolding checked
returns-then-n-a c = let a = c.args in
    let t = c.if-n-a.true in ap Err c.refuse-then-n-a.ensures ∙ ap checked (times-short a.p a.n a.m a.a a.work.now (inl (omega arith)))

pub returns-then-m-a : goal.returns-then-m-a
unfolding checked
returns-then-m-a c = let a = c.args in
    let t = c.if-m-a.true in ap Err c.refuse-then-m-a.ensures ∙ ap checked (times-short a.p a.n a.m a.a a.work.now (inl (omega arith)))

pub returns-then-p-l : goal.returns-then-p-l
unfolding checked
returns-then-p-l c = let a = c.args in
    let t = c.if-p-l.true in ap Err c.refuse-then-p-l.ensures ∙ ap checked (times-short a.p a.n a.m a.a a.work.now (inr (omega arith)))

pub overflow_add-n : goal.overflow_add-n
overflow_add-n c = let x = c.if-a-l.false in
    let y = c.if-n-a.false in
    let z = c.if-m-a.false in let w = c.if-p-l.false in let g = c.well_formed in let f = c.ranges in search rules

pub overflow_add-n-2 : goal.overflow_add-n-2
overflow_add-n-2 c = let x = c.if-a-l.false in
    let y = c.if-n-a.false in
    let z = c.if-m-a.false in let w = c.if-p-l.false in let g = c.well_formed in let f = c.ranges in search rules

pub overflow_add-n-3 : goal.overflow_add-n-3
overflow_add-n-3 c = let x = c.if-a-l.false in
    let y = c.if-n-a.false in
    let z = c.if-m-a.false in let w = c.if-p-l.false in let g = c.well_formed in let f = c.ranges in search rules

pub overflow_add-n-4 : goal.overflow_add-n-4
overflow_add-n-4 c = let x = c.if-a-l.false in
    let y = c.if-n-a.false in
    let z = c.if-m-a.false in let w = c.if-p-l.false in let g = c.well_formed in let f = c.ranges in search rules

pub returns-in_err-work_room : goal.returns-in_err-work_room
unfolding times_start
returns-in_err-work_room c = let p = err_from_is_err_and c.from_residual.result c.from_residual.ensures.1 in
    rw (p.1, p.2) (refused-first _ _ c.in_err-work_room.ensures)

pub overflow_add-end : goal.overflow_add-end
overflow_add-end c = let a = c.args in
    let o = work-open (a.n + a.m) (a.n + a.m + a.p + 1) a.a (length a.work.now) (let_by _ c.in_ok-work_room.ensures) in
    let u = o.1 in
    let x = c.if-a-l.false in
    let y = c.if-n-a.false in
    let z = c.if-m-a.false in
    let w = c.if-p-l.false in
    let g = c.well_formed in let f = c.ranges in search rules

pub overflow_add-end-2 : goal.overflow_add-end-2
overflow_add-end-2 c = let a = c.args in
    let o = work-open (a.n + a.m) (a.n + a.m + a.p + 1) a.a (length a.work.now) (let_by _ c.in_ok-work_room.ensures) in
    let u = o.1 in
    let x = c.if-a-l.false in
    let y = c.if-n-a.false in
    let z = c.if-m-a.false in
    let w = c.if-p-l.false in
    let g = c.well_formed in let f = c.ranges in search rules

pub overflow_add-end-3 : goal.overflow_add-end-3
overflow_add-end-3 c = let a = c.args in
    let o = work-open (a.n + a.m) (a.n + a.m + a.p + 1) a.a (length a.work.now) (let_by _ c.in_ok-work_room.ensures) in
    let u = o.1 in
    let x = c.if-a-l.false in
    let y = c.if-n-a.false in
    let z = c.if-m-a.false in
    let w = c.if-p-l.false in
    let g = c.well_formed in let f = c.ranges in search rules

pub slice_bounds-knot_refusal-end : goal.slice_bounds-knot_refusal-end
slice_bounds-knot_refusal-end c = let a = c.args in
    let o = work-open (a.n + a.m) (a.n + a.m + a.p + 1) a.a (length a.work.now) (let_by _ c.in_ok-work_room.ensures) in
    let u = o.1 in omega arith

pub returns : goal.returns
unfolding times_start
returns c = let a = c.args in
    simp (skip _ c.in_ok-work_room.ensures) (c.knot_refusal.ensures ∙ ap (λ (ks : List Float). checked (knot_refusal a.p a.n ks)) (slice_is a.a (a.n + a.p + 1) a.work.now))
