-- `edits::start::out_room` meets its contract.
-- Assumes nothing.
use Rattle.std.proofs.Common.{◌∙◌, ap, ℕ}
use Rattle.std.specs.Prelude.{Err}
use native.Mathlib.Omega.{arith}
use Rattle.knots.specs.Refusal.{checked}
use Rattle.knots.specs.Shape.{room_refusal}
use Rattle.edits.proofs.Starting.{out-knots, out-points, out-weights}
use Rattle.edits.proofs.start.out_room.Goals as goal

pub returns-then-n-a : goal.returns-then-n-a
unfolding checked
returns-then-n-a c = let a = c.args in
    let t = c.if-n-a.true in ap Err c.refuse.ensures ∙ ap checked (out-knots a.p a.n a.rational a.a a.b a.c (omega arith))

pub returns-then-p-a : goal.returns-then-p-a
unfolding checked
returns-then-p-a c = let a = c.args in
    let t = c.if-p-a.true in
    let u = c.if-n-a.false in ap Err c.refuse-then-p-a.ensures ∙ ap checked (out-knots a.p a.n a.rational a.a a.b a.c (omega arith))

pub returns-then-n-b : goal.returns-then-n-b
unfolding checked
returns-then-n-b c = let a = c.args in
    let t = c.if-n-b.true in
    let u = c.if-n-a.false in
    let v = c.if-p-a.false in
    ap Err c.refuse-then-n-b.ensures ∙ ap checked (out-points a.p a.n a.rational a.a a.b a.c (omega arith) (omega arith))

pub returns : goal.returns
returns c = let a = c.args in
    let t = c.if-n-b.false in
    let u = c.if-n-a.false in
    let v = c.if-p-a.false in
    c.room_refusal.ensures
    ∙ (ap (λ (i : ℕ). checked (room_refusal a.c i)) c.given_count.ensures
    ∙ ap checked (out-weights a.p a.n a.rational a.a a.b a.c (omega arith) (omega arith)))
