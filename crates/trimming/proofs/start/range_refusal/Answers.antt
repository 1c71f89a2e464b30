-- `trimming::start::range_refusal` meets its contract.
-- Assumes nothing.
use Rattle.std.specs.Prelude.{Err}
use Rattle.std.proofs.lemmas.Result.{err_from_is_err_and}
use mathlib.Core.Path.{sym, ◌∙◌, ap, ap₂}
use Prim.Native.Nat.{◌+◌}
use native.Mathlib.Omega.{arith}
use Rattle.knots.specs.Refusal.{checked}
use Rattle.knots.proofs.Refusals.{skip, refused-first}
use Rattle.edits.specs.Start.{out_room, scratch_room}
use Rattle.trimming.specs.Trim.{range_refusal}
use Rattle.trimming.proofs.Ranges.{range-order}
use borrow.Author.Rules.{rules}
use Rattle.trimming.proofs.start.range_refusal.Goals as goal

pub bounds-knots-p : goal.bounds-knots-p
bounds-knots-p c = let v = c.requires.valid_knots in let l = v.long in let k = v.count in let s = c.requires.knots_len_bound in omega arith

pub bounds-knots-n : goal.bounds-knots-n
bounds-knots-n c = let v = c.requires.valid_knots in let l = v.long in let k = v.count in let s = c.requires.knots_len_bound in omega arith

pub returns-then-not-is_range : goal.returns-then-not-is_range
unfolding range_refusal checked
returns-then-not-is_range c = simp (sym c.is_range.ensures ∙ c.if-not-is_range.true) (ap Err c.refuse.ensures)

pub kept-requires : goal.kept-requires
kept-requires c = let a = c.args in
    let q = c.requires in
    let v = q.valid_knots in
    let l = v.long in
    let k = v.count in let s = q.knots_len_bound in
    record {
      p_bound = omega arith;
      knots_len_bound = q.knots_len_bound;
      lo_bound = range-order a.p a.n a.knots.now q.valid_knots a.lo a.hi (sym c.is_range.ensures ∙ c.if-not-is_range.false);
    }

pub returns-in_err-out_room : goal.returns-in_err-out_room
unfolding range_refusal
returns-in_err-out_room c = let p = err_from_is_err_and c.from_residual.result c.from_residual.ensures.1 in
    let a = c.args in
    rw
    (p.1, p.2)
    (simp
    (sym c.is_range.ensures ∙ c.if-not-is_range.false)
    (refused-first _ _ (c.in_err-out_room.ensures ∙ ap (λ m. checked (out_room a.p m a.rational a.a a.b a.c)) c.kept.ensures)))

pub overflow_add-p : goal.overflow_add-p
overflow_add-p c = let q = c.requires in
    let v = q.valid_knots in let l = v.long in let k = v.count in let s = q.knots_len_bound in search rules

pub overflow_add-p-2 : goal.overflow_add-p-2
overflow_add-p-2 c = let q = c.requires in
    let v = q.valid_knots in let l = v.long in let k = v.count in let s = q.knots_len_bound in search rules

pub overflow_add-x : goal.overflow_add-x
overflow_add-x c = let q = c.requires in
    let v = q.valid_knots in let l = v.long in let k = v.count in let s = q.knots_len_bound in let x = c.missing-x.ensures in let y = c.missing-y.ensures in omega arith

pub overflow_add-n : goal.overflow_add-n
overflow_add-n c = let q = c.requires in
    let v = q.valid_knots in let l = v.long in let k = v.count in let s = q.knots_len_bound in let x = c.missing-x.ensures in let y = c.missing-y.ensures in omega arith

pub returns : goal.returns
unfolding range_refusal
returns c = let a = c.args in
    simp
    (sym c.is_range.ensures ∙ c.if-not-is_range.false, skip _ (c.in_ok-out_room.ensures ∙ ap (λ m. checked (out_room a.p m a.rational a.a a.b a.c)) c.kept.ensures))
    (c.scratch_room.ensures ∙ ap₂ (λ x y. checked (scratch_room a.p (a.n + (x + y)) a.d)) c.missing-x.ensures c.missing-y.ensures)
