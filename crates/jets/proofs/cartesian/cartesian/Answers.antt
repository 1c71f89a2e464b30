use Rattle.std.proofs.Common.{sym, ap, ◌∙◌}
use mathlib.Core.Path.{ap₂}
use Rattle.std.proofs.lemmas.Result.{err_from_is_err_and}
use Rattle.interval.specs.Ops.{new_of}
use Rattle.doubles.specs.Neighbour.{fmin, fmax}
use Rattle.jets.specs.Cartesian.{cartesian_of, box_by, cut_by}
use Rattle.jets.proofs.cartesian.cartesian.Goals as goal

pub returns-in_default : goal.returns-in_default
unfolding cartesian_of
returns-in_default c =
    let e = ap₂ new_of (c.max-lo.ensures ∙ ap₂ fmax c.lo.ensures c.lo-2.ensures) (c.min-hi.ensures ∙ ap₂ fmin c.hi.ensures c.hi-2.ensures) in
    rw (c.refuse.ensures, ← e) (ap (cut_by c.args.h c.args.o) (sym c.in_default.is ∙ c.new.ensures))

pub returns-in_err-r : goal.returns-in_err-r
unfolding cartesian_of
returns-in_err-r c = let p = err_from_is_err_and c.from_residual.result c.from_residual.ensures.1 in
    let e = ap₂ new_of (c.max-lo.ensures ∙ ap₂ fmax c.lo.ensures c.lo-2.ensures) (c.min-hi.ensures ∙ ap₂ fmin c.hi.ensures c.hi-2.ensures) in
    rw (p.1, p.2, ← e, ← c.in-Some.ensures) (ap (box_by c.args.h c.args.o) c.in_err-r.ensures)

pub returns : goal.returns
unfolding cartesian_of
returns c =
    let e = ap₂ new_of (c.max-lo.ensures ∙ ap₂ fmax c.lo.ensures c.lo-2.ensures) (c.min-hi.ensures ∙ ap₂ fmin c.hi.ensures c.hi-2.ensures) in
    rw (← e, ← c.in-Some.ensures, c.coordinate-3.ensures, c.coordinate-2.ensures, c.coordinate.ensures) (ap (box_by c.args.h c.args.o) c.in_ok-r.ensures)
