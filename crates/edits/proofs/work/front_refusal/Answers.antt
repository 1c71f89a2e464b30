-- `edits::work::front_refusal` meets its contract.
-- Assumes nothing.
use Rattle.std.proofs.Common.{◌∙◌, ap, ℕ, ◌+◌, ◌*◌}
use Rattle.std.proofs.lemmas.Result.{err_from_is_err_and}
use native.Mathlib.Omega.{arith}
use lib.ListN.{length, take, length-take}
use Rattle.knots.specs.Refusal.{checked}
use Rattle.knots.specs.Curve.{formed_refusal}
use Rattle.knots.proofs.Refusals.{let_by, skip, refused-first}
use Rattle.edits.specs.Work.{front_refusal}
use Rattle.edits.proofs.Starting.{out-open}
use borrow.Author.Rules.{rules}
use Rattle.edits.proofs.work.front_refusal.Goals as goal

pub returns-in_err-out_room : goal.returns-in_err-out_room
unfolding front_refusal
returns-in_err-out_room c = let p = err_from_is_err_and c.from_residual.result c.from_residual.ensures.1 in
    rw (p.1, p.2) (refused-first _ _ c.in_err-out_room.ensures)

pub overflow_add-a : goal.overflow_add-a
overflow_add-a c = let a = c.args in
    let o =
    out-open
    a.p a.n a.rational (length a.knots.now) (length a.points.now) (length a.weights.now)
    (let_by _ c.in_ok-out_room.ensures) in
    let x = o.knots in
    let y = o.points in let z = o.weights in let g = c.well_formed in let f = c.ranges in search rules

pub overflow_add-a-2 : goal.overflow_add-a-2
overflow_add-a-2 c = let a = c.args in
    let o =
    out-open
    a.p a.n a.rational (length a.knots.now) (length a.points.now) (length a.weights.now)
    (let_by _ c.in_ok-out_room.ensures) in
    let x = o.knots in
    let y = o.points in let z = o.weights in let g = c.well_formed in let f = c.ranges in search rules

pub overflow_mul-b : goal.overflow_mul-b
overflow_mul-b c = let a = c.args in
    let o =
    out-open
    a.p a.n a.rational (length a.knots.now) (length a.points.now) (length a.weights.now)
    (let_by _ c.in_ok-out_room.ensures) in
    let x = o.knots in
    let y = o.points in let z = o.weights in let g = c.well_formed in let f = c.ranges in search rules

pub slice_bounds-formed_refusal-end : goal.slice_bounds-formed_refusal-end
slice_bounds-formed_refusal-end c = let a = c.args in
    let o =
    out-open
    a.p a.n a.rational (length a.knots.now) (length a.points.now) (length a.weights.now)
    (let_by _ c.in_ok-out_room.ensures) in
    let x = o.knots in
    let y = o.points in
    let z = o.weights in
    let g = c.well_formed in let f = c.ranges in simp length-take (omega arith)

pub slice_bounds-formed_refusal-end-2 : goal.slice_bounds-formed_refusal-end-2
slice_bounds-formed_refusal-end-2 c = let a = c.args in
    let o =
    out-open
    a.p a.n a.rational (length a.knots.now) (length a.points.now) (length a.weights.now)
    (let_by _ c.in_ok-out_room.ensures) in
    let x = o.knots in
    let y = o.points in
    let z = o.weights in
    let g = c.well_formed in
    let f = c.ranges in simp length-take (omega arith)

pub slice_bounds-formed_refusal-end-3 : goal.slice_bounds-formed_refusal-end-3
slice_bounds-formed_refusal-end-3 c = let a = c.args in
    let o =
    out-open
    a.p a.n a.rational (length a.knots.now) (length a.points.now) (length a.weights.now)
    (let_by _ c.in_ok-out_room.ensures) in
    let x = o.knots in
    let y = o.points in
    let z = o.weights in
    let g = c.well_formed in
    let f = c.ranges in let e = c.given_count-c.ensures in simp length-take (omega arith)

pub returns : goal.returns
unfolding front_refusal
returns c = let a = c.args in
    simp
    (skip _ c.in_ok-out_room.ensures)
    (c.formed_refusal.ensures
    ∙ ap (λ (i : ℕ). checked (formed_refusal a.p a.n (take (a.n + a.p + 1) a.knots.now) (take (a.n * 3) a.points.now) a.rational (take i a.weights.now))) c.given_count-c.ensures)
