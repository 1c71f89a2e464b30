-- `elevation::start::raise_start` meets its contract.
-- Assumes nothing.
use Rattle.std.specs.Prelude.{Err}
use Rattle.std.proofs.lemmas.Result.{err_from_is_err_and}
use Prim.Native.Nat.{ℕ}
use mathlib.Core.Path.{refl, sym, ◌∙◌, ap}
use borrow.Author.Tests.{lt-ltb, le-ltb}
use Rattle.knots.specs.Refusal.{checked}
use Rattle.knots.proofs.Refusals.{skip, refused-first}
use Rattle.edits.specs.Start.{out_room, scratch_room}
use Rattle.elevation.specs.Whole.{raise_start}
use Rattle.elevation.proofs.Limits.{not-high, breaks-small, extracted-small, extracted-is}
use borrow.Author.Rules.{rules}
use Rattle.elevation.proofs.start.raise_start.Goals as goal

pub returns-then-e-p : goal.returns-then-e-p
unfolding raise_start checked
returns-then-e-p c = simp (lt-ltb c.args.e c.args.p c.if-e-p.true) (ap Err c.refuse.ensures)

pub returns-then-is_high : goal.returns-then-is_high
unfolding raise_start checked
returns-then-is_high c = let a = c.args in
    simp (le-ltb a.e a.p c.if-e-p.false, sym c.is_high.ensures ∙ c.if-is_high.true) (ap Err c.refuse-then-is_high.ensures)

pub elevated_count-count-requires : goal.elevated_count-count-requires
elevated_count-count-requires c = let a = c.args in
    let q = c.requires in
    record {
      p_lt_n = (q.0, q.1, q.2);
      e_bound = (not-high a.p a.e (sym c.is_high.ensures ∙ c.if-is_high.false));
    }

pub overflow_add-extracted-2 : goal.overflow_add-extracted-2
overflow_add-extracted-2 c = let a = c.args in
    let q = c.requires in
    let w = breaks-small a.p a.n a.knots.now q.0 q.2 in
    let x = c.break_count-breaks.ensures in
    let m = extracted-small a.p a.n a.knots.now q.0 q.2 c.break_count-breaks.result c.break_count-breaks.ensures in search rules

pub overflow_mul-extracted : goal.overflow_mul-extracted
overflow_mul-extracted c = let a = c.args in
    let q = c.requires in
    let w = breaks-small a.p a.n a.knots.now q.0 q.2 in
    let x = c.break_count-breaks.ensures in
    let m = extracted-small a.p a.n a.knots.now q.0 q.2 c.break_count-breaks.result c.break_count-breaks.ensures in search rules

pub returns-in_err-out_room : goal.returns-in_err-out_room
unfolding raise_start
returns-in_err-out_room c = let p = err_from_is_err_and c.from_residual.result c.from_residual.ensures.1 in
    let a = c.args in
    rw
    (p.1, p.2)
    (simp
    (le-ltb a.e a.p c.if-e-p.false, sym c.is_high.ensures ∙ c.if-is_high.false)
    (refused-first _ _ (c.in_err-out_room.ensures ∙ ap (λ (k : ℕ). checked (out_room a.e k a.rational a.a a.b a.c)) c.elevated_count-count.ensures)))

pub returns : goal.returns
unfolding raise_start
returns c = let a = c.args in
    let q = c.requires in
    simp
    (le-ltb a.e a.p c.if-e-p.false, sym c.is_high.ensures ∙ c.if-is_high.false, skip _ (c.in_ok-out_room.ensures ∙ ap (λ (k : ℕ). checked (out_room a.e k a.rational a.a a.b a.c)) c.elevated_count-count.ensures))
    (c.scratch_room.ensures
    ∙ ap (λ (k : ℕ). checked (scratch_room a.p k a.d)) (extracted-is a.p a.n a.knots.now q.0 q.2 _ _ (record { breaks = c.break_count-breaks.ensures; full = refl })))
