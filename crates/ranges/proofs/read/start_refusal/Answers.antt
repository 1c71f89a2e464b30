use Rattle.std.specs.Prelude.{Err}
use Rattle.std.proofs.lemmas.Result.{err_from_is_err_and}
use mathlib.Core.Path.{sym, ◌∙◌, ap}
use Rattle.knots.specs.Refusal.{checked}
use Rattle.knots.proofs.Curves.{short}
use Rattle.knots.proofs.Shapes.{shaped}
use Rattle.knots.proofs.Refusals.{let_by, skip, refused-first}
use Rattle.ranges.specs.Read.{start_refusal}
use Rattle.ranges.proofs.read.start_refusal.Goals as goal

pub returns-then-any_long : goal.returns-then-any_long
unfolding start_refusal checked
returns-then-any_long c = simp (sym c.any_long.ensures ∙ c.if-any_long.true) (ap Err c.refuse.ensures)

pub returns-in_err-curve_shape : goal.returns-in_err-curve_shape
unfolding start_refusal
returns-in_err-curve_shape c = let p = err_from_is_err_and c.from_residual.result c.from_residual.ensures.1 in
    rw (p.1, p.2) (simp (sym c.any_long.ensures ∙ c.if-any_long.false) (refused-first _ _ c.in_err-curve_shape.ensures))

pub place_refusal-requires : goal.place_refusal-requires
place_refusal-requires c = let a = c.args in
    let k = shaped a.curve.degree a.curve.knots.now a.curve.points.now a.curve.rational a.curve.weights.now (let_by _ c.in_ok-curve_shape.ensures) in
    record {
      knots_len = k.knots.long;
      points_len_bound = (short a.curve.knots.now a.curve.points.now a.curve.rational a.curve.weights.now
          (sym c.any_long.ensures ∙ c.if-any_long.false)).points;
      weights_len = k.weights;
    }

pub returns : goal.returns
unfolding start_refusal
returns c = simp (sym c.any_long.ensures ∙ c.if-any_long.false, skip _ c.in_ok-curve_shape.ensures) c.place_refusal.ensures
