use Rattle.std.proofs.lemmas.Result.{err_from_is_err_and}
use mathlib.Core.Path.{◌∙◌, ap}
use Rattle.bounds.specs.Curve.{span_bound}
use Rattle.bounds.specs.Start.{row_of}
use Rattle.bounds.specs.Point.{flat_box}
use Rattle.bounds.proofs.Points.{row-good, box-same}
use Rattle.bounds.proofs.point.point_on.Goals as goal

pub returns-in_err-w : goal.returns-in_err-w
unfolding span_bound
returns-in_err-w c = let p = err_from_is_err_and c.from_residual.result c.from_residual.ensures.1 in rw (p.1, p.2, ← c.in_err-w.ensures)

pub returns-in_default : goal.returns-in_default
unfolding span_bound
returns-in_default c = rw (← c.in_ok-w.ensures, ← c.new.ensures, c.in_default.is, c.refuse.ensures)

pub returns-in_err-h : goal.returns-in_err-h
unfolding span_bound
returns-in_err-h c = let p = err_from_is_err_and c.from_residual-in_err-h.result c.from_residual-in_err-h.ensures.1 in
    rw (p.1, p.2, ← c.in_ok-w.ensures, ← c.in-Some.ensures, ← c.point_at-o.ensures)
    (ap (flat_box _ _) c.in_err-h.ensures ∙ box-same _ _ (row_of _ _ _ _ _ _ _ _ _ _) (row-good _ _ _ _ _ _ _ _ _ _))

pub returns : goal.returns
unfolding span_bound
returns c = rw (← c.in_ok-w.ensures, ← c.in-Some.ensures, ← c.point_at-o.ensures)
    (c.flat_cartesian.ensures ∙ ap (flat_box _ _) c.in_ok-h.ensures ∙ box-same _ _ (row_of _ _ _ _ _ _ _ _ _ _) (row-good _ _ _ _ _ _ _ _ _ _))
