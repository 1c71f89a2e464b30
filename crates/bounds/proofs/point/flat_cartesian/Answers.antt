use Rattle.std.proofs.lemmas.Result.{err_from_is_err_and}
use Rattle.std.proofs.Common.{ap}
use Rattle.bounds.specs.Point.{flat_cartesian, flat_by}
use Rattle.bounds.proofs.point.flat_cartesian.Goals as goal

pub returns-in_default : goal.returns-in_default
unfolding flat_cartesian
returns-in_default c = rw (
  ← c.interval_of-own.ensures,
  ← c.lo.ensures,
  ← c.lo-2.ensures,
  ← c.max-lo.ensures,
  ← c.hi.ensures,
  ← c.hi-2.ensures,
  ← c.min-hi.ensures,
  ← c.new.ensures,
  c.in_default.is,
  c.refuse.ensures,
)

pub returns-in_err-r : goal.returns-in_err-r
unfolding flat_cartesian
returns-in_err-r c = let p = err_from_is_err_and c.from_residual.result c.from_residual.ensures.1 in
    rw (
      p.1,
      p.2,
      ← c.interval_of-own.ensures,
      ← c.lo.ensures,
      ← c.lo-2.ensures,
      ← c.max-lo.ensures,
      ← c.hi.ensures,
      ← c.hi-2.ensures,
      ← c.min-hi.ensures,
      ← c.in-Some.ensures,
    )
    (ap (flat_by c.args.h c.args.o) c.in_err-r.ensures)

pub returns : goal.returns
unfolding flat_cartesian
returns c =
    rw (
      ← c.interval_of-own.ensures,
      ← c.lo.ensures,
      ← c.lo-2.ensures,
      ← c.max-lo.ensures,
      ← c.hi.ensures,
      ← c.hi-2.ensures,
      ← c.min-hi.ensures,
      ← c.in-Some.ensures,
      c.along.ensures,
      c.along-2.ensures,
      c.along-3.ensures,
      c.interval_of.ensures,
      c.interval_of-2.ensures,
      c.interval_of-3.ensures,
    )
    (ap (flat_by c.args.h c.args.o) c.in_ok-r.ensures)
