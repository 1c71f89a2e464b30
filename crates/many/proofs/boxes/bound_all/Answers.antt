-- `many::boxes::bound_all` meets its contract.
-- Assumes nothing.
use lib.ListN.{length}
use Prim.Native.Nat.{ℕ, ◌*◌, ◌≤◌}
use mathlib.Core.Bool.{Bool}
use native.Mathlib.Omega.{arith}
use mathlib.Core.Path.{refl, sym, ◌∙◌, ap, subst}
use Rattle.knots.specs.declared.refusal.Refusal.{Refusal}
use Rattle.std.proofs.lemmas.Result.{err_from_is_err_and}
use Rattle.knots.specs.Refusal.{checked}
use Rattle.knots.proofs.Refusals.{let_by}
use Rattle.many.specs.Spans.{spans_of, box_width, bound_in, mark_at, box_at_by, spans_start_by}
use Rattle.many.proofs.Said.{box-says}
use Rattle.many.proofs.Rows.{meets-refused, meets-answered, table-open, small_product}
use Rattle.many.proofs.Bounded.{box-width-small, rows_few, after, table-stops, rooms-last, spans-fits}
use Rattle.many.proofs.boxes.bound_all.Goals as goal

pub returns-in_err-table_refusal : goal.returns-in_err-table_refusal
returns-in_err-table_refusal c = let a = c.args in
    let m = c.fill in
    let z = m.ensures.after (λ y e. e) in
    let b = c.clear in
    let p = err_from_is_err_and c.from_residual.result c.from_residual.ensures.1 in
    rw (p.1, p.2)
    (meets-refused
    (mark_at a.curve.degree a.curve.knots.now a.curve.points.now a.curve.rational a.curve.weights.now) 2 (λ s. refl) (box_at_by a.curve.degree a.curve.knots.now a.curve.points.now a.curve.rational a.curve.weights.now a.alone) (box_width a.alone)
    (λ s. (box-says a.alone (bound_in a.curve.degree a.curve.knots.now a.curve.points.now a.curve.rational a.curve.weights.now s)).count)
    (spans_of a.curve.degree a.curve.knots.now a.curve.points.now) (length a.marks.now) (length a.boxes.now)
    m.new.self b.new.xs z b.ensures _ _
    (table-stops a.curve.degree a.curve.knots.now a.curve.points.now a.curve.rational a.curve.weights.now (box_width a.alone) (length a.marks.now) (length a.boxes.now) _ c.in_err-table_refusal.ensures))

pub span_count-n-requires : goal.span_count-n-requires
span_count-n-requires c = let a = c.args in
    let v = table-open a.curve.degree a.curve.knots.now a.curve.points.now a.curve.rational a.curve.weights.now (let_by _ c.in_ok-table_refusal.ensures) in
    record {
      degree_le_count = omega (arith, v.knots.count);
      count_in_bounds = omega (arith, v.knots.count, v.knots.long);
    }

pub overflow_mul-n : goal.overflow_mul-n
overflow_mul-n c = let a = c.args in
    omega (arith, c.span_count-n.ensures, rows_few a.curve.degree a.curve.knots.now a.curve.points.now a.curve.rational a.curve.weights.now (table-open a.curve.degree a.curve.knots.now a.curve.points.now a.curve.rational a.curve.weights.now (let_by _ c.in_ok-table_refusal.ensures)))

pub overflow_mul-n-2 : goal.overflow_mul-n-2
overflow_mul-n-2 c = let a = c.args in
    let b = c.box_width-w in
    let n : c.span_count-n.result ≤ 1048576 = rw c.span_count-n.ensures (rows_few a.curve.degree a.curve.knots.now a.curve.points.now a.curve.rational a.curve.weights.now (table-open a.curve.degree a.curve.knots.now a.curve.points.now a.curve.rational a.curve.weights.now (let_by _ c.in_ok-table_refusal.ensures))) in
    let w : b.result ≤ 18 = rw b.ensures (box-width-small a.alone) in
    omega (arith, small_product c.span_count-n.result b.result n w)

pub returns-in_err-rooms_refusal : goal.returns-in_err-rooms_refusal
returns-in_err-rooms_refusal c = let a = c.args in
    let m = c.fill in
    let z = m.ensures.after (λ y e. e) in
    let b = c.clear in
    let n = c.span_count-n in
    let w = c.box_width-w in
    let p = err_from_is_err_and c.from_residual-in_err-rooms_refusal.result c.from_residual-in_err-rooms_refusal.ensures.1 in
    rw (p.1, p.2)
    (meets-refused
    (mark_at a.curve.degree a.curve.knots.now a.curve.points.now a.curve.rational a.curve.weights.now) 2 (λ s. refl) (box_at_by a.curve.degree a.curve.knots.now a.curve.points.now a.curve.rational a.curve.weights.now a.alone) (box_width a.alone)
    (λ s. (box-says a.alone (bound_in a.curve.degree a.curve.knots.now a.curve.points.now a.curve.rational a.curve.weights.now s)).count)
    (spans_of a.curve.degree a.curve.knots.now a.curve.points.now) (length a.marks.now) (length a.boxes.now)
    m.new.self b.new.xs z b.ensures _ _
    (c.in_err-rooms_refusal.ensures ∙ ap checked (rooms-last a.curve.degree a.curve.knots.now a.curve.points.now a.curve.rational a.curve.weights.now w.result (length a.marks.now) (length a.boxes.now) m.new.self b.new.xs z b.ensures (let_by _ c.in_ok-table_refusal.ensures) _ n.ensures
    ∙ ap (λ (k : ℕ). spans_start_by a.curve.degree a.curve.knots.now a.curve.points.now a.curve.rational a.curve.weights.now k (length a.marks.now) (length a.boxes.now)) w.ensures)))

pub bound_each_by-requires : goal.bound_each_by-requires
bound_each_by-requires c = let a = c.args in
    let f = spans-fits a.curve.degree a.curve.knots.now a.curve.points.now a.curve.rational a.curve.weights.now c.box_width-w.result _ _ _ c.span_count-n.ensures (let_by _ c.in_ok-rooms_refusal.ensures) in
    record {
      valid_curve = table-open a.curve.degree a.curve.knots.now a.curve.points.now a.curve.rational a.curve.weights.now (let_by _ c.in_ok-table_refusal.ensures);
      points_in_bounds = f.0;
      alone_in_bounds = subst (λ (k : ℕ). length (spans_of a.curve.degree a.curve.knots.now a.curve.points.now) * k ≤ length c.clear.new.xs) (c.box_width-w.ensures ∙ ap box_width c.if-alone.true) f.1;
    }

pub returns-then-alone : goal.returns-then-alone
returns-then-alone c = let a = c.args in
    let m = c.fill in
    let z = m.ensures.after (λ y e. e) in
    let b = c.clear in
    let n = c.span_count-n in
    let w = c.box_width-w in
    meets-answered
    (mark_at a.curve.degree a.curve.knots.now a.curve.points.now a.curve.rational a.curve.weights.now) 2 (λ s. refl) (box_at_by a.curve.degree a.curve.knots.now a.curve.points.now a.curve.rational a.curve.weights.now a.alone) (box_width a.alone)
    (λ s. (box-says a.alone (bound_in a.curve.degree a.curve.knots.now a.curve.points.now a.curve.rational a.curve.weights.now s)).count)
    (spans_of a.curve.degree a.curve.knots.now a.curve.points.now) (length a.marks.now) (length a.boxes.now)
    m.new.self b.new.xs z b.ensures _
    (ap (λ (r : Refusal). r.number) (sym (rooms-last a.curve.degree a.curve.knots.now a.curve.points.now a.curve.rational a.curve.weights.now w.result (length a.marks.now) (length a.boxes.now) m.new.self b.new.xs z b.ensures (let_by _ c.in_ok-table_refusal.ensures) _ n.ensures
    ∙ ap (λ (k : ℕ). spans_start_by a.curve.degree a.curve.knots.now a.curve.points.now a.curve.rational a.curve.weights.now k (length a.marks.now) (length a.boxes.now)) w.ensures)) ∙ let_by _ c.in_ok-rooms_refusal.ensures) _ _ _ _ _ n.ensures refl refl c.bound_each_by.ensures.marks_after
    (c.bound_each_by.ensures.boxes_after ∙ ap (λ (d : Bool). after a.curve.degree a.curve.knots.now a.curve.points.now a.curve.rational a.curve.weights.now d b.new.xs) (sym c.if-alone.true))

pub bound_each-requires : goal.bound_each-requires
bound_each-requires c = let a = c.args in
    let f = spans-fits a.curve.degree a.curve.knots.now a.curve.points.now a.curve.rational a.curve.weights.now c.box_width-w.result _ _ _ c.span_count-n.ensures (let_by _ c.in_ok-rooms_refusal.ensures) in
    record {
      valid_curve = table-open a.curve.degree a.curve.knots.now a.curve.points.now a.curve.rational a.curve.weights.now (let_by _ c.in_ok-table_refusal.ensures);
      marks_in_bounds = f.0;
      boxes_in_bounds = subst (λ (k : ℕ). length (spans_of a.curve.degree a.curve.knots.now a.curve.points.now) * k ≤ length c.clear.new.xs) (c.box_width-w.ensures ∙ ap box_width c.if-alone.false) f.1;
    }

pub returns : goal.returns
returns c = let a = c.args in
    let m = c.fill in
    let z = m.ensures.after (λ y e. e) in
    let b = c.clear in
    let n = c.span_count-n in
    let w = c.box_width-w in
    meets-answered
    (mark_at a.curve.degree a.curve.knots.now a.curve.points.now a.curve.rational a.curve.weights.now) 2 (λ s. refl) (box_at_by a.curve.degree a.curve.knots.now a.curve.points.now a.curve.rational a.curve.weights.now a.alone) (box_width a.alone)
    (λ s. (box-says a.alone (bound_in a.curve.degree a.curve.knots.now a.curve.points.now a.curve.rational a.curve.weights.now s)).count)
    (spans_of a.curve.degree a.curve.knots.now a.curve.points.now) (length a.marks.now) (length a.boxes.now)
    m.new.self b.new.xs z b.ensures _
    (ap (λ (r : Refusal). r.number) (sym (rooms-last a.curve.degree a.curve.knots.now a.curve.points.now a.curve.rational a.curve.weights.now w.result (length a.marks.now) (length a.boxes.now) m.new.self b.new.xs z b.ensures (let_by _ c.in_ok-table_refusal.ensures) _ n.ensures
    ∙ ap (λ (k : ℕ). spans_start_by a.curve.degree a.curve.knots.now a.curve.points.now a.curve.rational a.curve.weights.now k (length a.marks.now) (length a.boxes.now)) w.ensures)) ∙ let_by _ c.in_ok-rooms_refusal.ensures) _ _ _ _ _ n.ensures refl refl c.bound_each.ensures.marks_after
    (c.bound_each.ensures.boxes_after ∙ ap (λ (d : Bool). after a.curve.degree a.curve.knots.now a.curve.points.now a.curve.rational a.curve.weights.now d b.new.xs) (sym c.if-alone.false))
