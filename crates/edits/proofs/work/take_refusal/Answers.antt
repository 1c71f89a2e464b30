-- `edits::work::take_refusal` meets its contract.
-- Assumes nothing.
use Rattle.std.proofs.Common.{◌∙◌, ap}
use Rattle.std.specs.Prelude.{Err}
use mathlib.Core.Logic.{inl, inr}
use native.Mathlib.Omega.{arith}
use Rattle.knots.specs.Refusal.{checked}
use Rattle.edits.proofs.WorkCalls.{take_short, take-fits}
use Rattle.edits.proofs.work.take_refusal.Goals as goal

pub returns-then-f-a : goal.returns-then-f-a
unfolding checked
returns-then-f-a c = let a = c.args in
    let t = c.if-f-a.true in ap Err c.refuse.ensures ∙ ap checked (take_short a.p a.m a.f a.rational a.a a.l a.b a.c a.d (inl (omega arith)))

pub returns-then-m-a : goal.returns-then-m-a
unfolding checked
returns-then-m-a c = let a = c.args in
    let t = c.if-m-a.true in
    let u = c.if-f-a.false in ap Err c.refuse-then-m-a.ensures ∙ ap checked (take_short a.p a.m a.f a.rational a.a a.l a.b a.c a.d (inl (omega arith)))

pub returns-then-a-l : goal.returns-then-a-l
unfolding checked
returns-then-a-l c = let a = c.args in
    let t = c.if-a-l.true in ap Err c.refuse-then-a-l.ensures ∙ ap checked (take_short a.p a.m a.f a.rational a.a a.l a.b a.c a.d (inr (omega arith)))

pub returns-then-f-m : goal.returns-then-f-m
unfolding checked
returns-then-f-m c = let a = c.args in
    let t = c.if-f-m.true in
    let u = c.if-a-l.false in ap Err c.refuse-then-f-m.ensures ∙ ap checked (take_short a.p a.m a.f a.rational a.a a.l a.b a.c a.d (inr (omega arith)))

pub returns-then-p-l : goal.returns-then-p-l
unfolding checked
returns-then-p-l c = let a = c.args in
    let t = c.if-p-l.true in
    let u = c.if-a-l.false in
    let v = c.if-f-m.false in
    ap Err c.refuse-then-p-l.ensures ∙ ap checked (take_short a.p a.m a.f a.rational a.a a.l a.b a.c a.d (inr (omega arith)))

pub returns : goal.returns
returns c = let a = c.args in
    let t = c.if-p-l.false in
    let u = c.if-a-l.false in
    let v = c.if-f-m.false in
    let x = c.if-f-a.false in
    let y = c.if-m-a.false in
    c.out_room.ensures ∙ ap checked (take-fits a.p a.m a.f a.rational a.a a.l a.b a.c a.d (omega arith) (omega arith))
