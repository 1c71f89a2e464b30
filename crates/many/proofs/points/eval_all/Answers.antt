-- `many::points::eval_all` meets its contract.
-- Assumes nothing.
use Prim.Native.Nat.{ℕ}
use mathlib.Core.Path.{refl, sym, ◌∙◌, ap}
use native.Mathlib.Omega.{arith}
use lib.ListN.{length}
use Rattle.knots.specs.declared.refusal.Refusal.{Refusal}
use Rattle.std.proofs.lemmas.Result.{err_from_is_err_and}
use Rattle.knots.specs.Refusal.{checked}
use Rattle.knots.proofs.Refusals.{let_by}
use Rattle.many.specs.Points.{width, number_at, numbers_at, points_start}
use Rattle.many.proofs.Said.{row-says}
use Rattle.many.proofs.Rows.{meets-refused, meets-answered}
use Rattle.many.proofs.Evaluated.{width_small, points-open, start_is}
use Rattle.many.proofs.points.eval_all.Goals as goal

pub points_start-requires : goal.points_start-requires
points_start-requires c = rw c.width-w.ensures (width_small c.args.two)

pub returns-in_err-points_start : goal.returns-in_err-points_start
returns-in_err-points_start c = let a = c.args in
    let z = c.fill.ensures.after (λ y e. e) in
    let p = err_from_is_err_and c.from_residual.result c.from_residual.ensures.1 in
    rw (p.1, p.2)
    (meets-refused
    (number_at a.clamps a.curve.degree a.curve.knots.now a.curve.points.now a.curve.rational a.curve.weights.now a.two) 1 (λ t. refl)
    (numbers_at a.clamps a.curve.degree a.curve.knots.now a.curve.points.now a.curve.rational a.curve.weights.now a.two) (width a.two)
    (λ t. (row-says a.clamps a.curve.degree a.curve.knots.now a.curve.points.now a.curve.rational a.curve.weights.now a.two t).count) a.ts.now (length a.numbers.now) (length a.rows.now)
    c.fill.new.self c.clear.new.xs
    z c.clear.ensures _ _
    (c.in_err-points_start.ensures
    ∙ ap checked
    (start_is a.curve.degree a.curve.knots.now a.curve.points.now a.curve.rational a.curve.weights.now a.ts.now c.width-w.result (length a.numbers.now) (length a.rows.now) c.fill.new.self c.clear.new.xs z c.clear.ensures
    ∙ ap (λ (k : ℕ). points_start a.curve.degree a.curve.knots.now a.curve.points.now a.curve.rational a.curve.weights.now a.ts.now k (length a.numbers.now) (length a.rows.now)) c.width-w.ensures)))

pub eval_each-requires : goal.eval_each-requires
eval_each-requires c = let a = c.args in
    let o = points-open a.curve.degree a.curve.knots.now a.curve.points.now a.curve.rational a.curve.weights.now a.ts.now c.width-w.result _ _ (let_by _ c.in_ok-points_start.ensures) in
    record {
      valid_curve = o.curve;
      ts_len_bound = o.few;
      ts_in_bounds = o.numbers;
      two_in_bounds = rw (← c.width-w.ensures) o.rows;
    }

pub returns : goal.returns
returns c = let b = c.fill in
    let z = b.ensures.after (λ y e. e) in
    let d = c.clear in
    let a = c.args in
    meets-answered
    (number_at a.clamps a.curve.degree a.curve.knots.now a.curve.points.now a.curve.rational a.curve.weights.now a.two) 1 (λ t. refl)
    (numbers_at a.clamps a.curve.degree a.curve.knots.now a.curve.points.now a.curve.rational a.curve.weights.now a.two) (width a.two)
    (λ t. (row-says a.clamps a.curve.degree a.curve.knots.now a.curve.points.now a.curve.rational a.curve.weights.now a.two t).count) a.ts.now (length a.numbers.now) (length a.rows.now)
    b.new.self
    d.new.xs
    z
    d.ensures _
    (ap (λ (r : Refusal). r.number)
    (sym
    (start_is a.curve.degree a.curve.knots.now a.curve.points.now a.curve.rational a.curve.weights.now a.ts.now c.width-w.result (length a.numbers.now) (length a.rows.now) b.new.self d.new.xs z d.ensures
    ∙ ap (λ (k : ℕ). points_start a.curve.degree a.curve.knots.now a.curve.points.now a.curve.rational a.curve.weights.now a.ts.now k (length a.numbers.now) (length a.rows.now)) c.width-w.ensures))
    ∙ let_by _ c.in_ok-points_start.ensures)
    (length a.ts.now) _ _ _ _ refl (omega arith) refl c.eval_each.ensures.numbers_after
    c.eval_each.ensures.rows_after
