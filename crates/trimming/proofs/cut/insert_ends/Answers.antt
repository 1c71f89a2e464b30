-- `trimming::cut::insert_ends` meets its contract.
-- Assumes nothing.
use Rattle.std.proofs.Common.{refl}
use Rattle.std.proofs.lemmas.Result.{err_from_is_err_and}
use native.Mathlib.Omega.{arith}
use Rattle.trimming.proofs.Ends.{laid_none, first-refused, second-done}
use borrow.Author.Rules.{rules}
use Rattle.trimming.proofs.cut.insert_ends.Goals as goal

pub overflow_add-degree : goal.overflow_add-degree
overflow_add-degree c = let v = c.requires.valid_curve in
    let l = v.knots.long in let k = v.knots.count in let s = v.short.knots in let g = c.well_formed in let f = c.ranges in search rules

pub overflow_add-degree-2 : goal.overflow_add-degree-2
overflow_add-degree-2 c = let v = c.requires.valid_curve in
    let l = v.knots.long in
    let k = v.knots.count in let s = v.short.knots in let g = c.well_formed in let f = c.ranges in search rules

pub returns-in_err-lay_curve : goal.returns-in_err-lay_curve
returns-in_err-lay_curve c = let a = c.args in
    let q = c.requires in
    let no =
    laid_none
    a.a a.curve.degree a.curve.knots.now a.curve.points.now a.curve.rational a.curve.weights.now q.valid_curve a.lo a.hi a.work.now q.hi_bound.0 q.hi_bound.1 _
    c.in_err-lay_curve.ensures.value in
    record { value = cc; work_after = cc }

pub returns-in_err-insert_times : goal.returns-in_err-insert_times
returns-in_err-insert_times c = let p = err_from_is_err_and c.from_residual-in_err-insert_times.result c.from_residual-in_err-insert_times.ensures.1 in
    let a = c.args in
    let q = c.requires in
    let t = c.in_err-insert_times.ensures in
    let all =
    first-refused
    a.a a.curve.degree a.curve.knots.now a.curve.points.now a.curve.rational a.curve.weights.now q.valid_curve a.lo a.hi a.work.now q.hi_bound.0 q.hi_bound.1 _ _ _
    c.in_ok-lay_curve.ensures.work_after _
    c.missing-x.ensures t.value t.work_after _ refl in
    record { value = rw (p.1, p.2) all.0; work_after = all.1 }

pub overflow_add-n : goal.overflow_add-n
overflow_add-n c = let v = c.requires.valid_curve in
    let l = v.knots.long in
    let k = v.knots.count in
    let s = v.short.knots in
    let g = c.well_formed in
    let f = c.ranges in
    let x = c.missing-x.ensures in omega arith

pub returns : goal.returns
returns c = let a = c.args in
    let q = c.requires in
    let t = c.in_ok-insert_times.ensures in
    let all =
    second-done
    a.a a.curve.degree a.curve.knots.now a.curve.points.now a.curve.rational a.curve.weights.now q.valid_curve a.lo a.hi a.work.now q.hi_bound.0 q.hi_bound.1 _ _ _
    c.in_ok-lay_curve.ensures.work_after _
    c.missing-x.ensures t.value t.work_after refl _
    c.missing-y.ensures _ _
    c.insert_times-2.ensures.value c.insert_times-2.ensures.work_after in
    record { value = all.0; work_after = all.1 }
