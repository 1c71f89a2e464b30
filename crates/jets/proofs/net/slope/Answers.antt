use mathlib.Core.Path.{sym, ◌∙◌}
use Rattle.jets.specs.Net.{slope_of}
use Rattle.jets.proofs.Slopes.{slope-is}
use Rattle.jets.proofs.net.slope.Goals as goal

pub returns-then-all_symmetric : goal.returns-then-all_symmetric
returns-then-all_symmetric c = rw (c.sum_of_products.ensures, c.hi-then-all_symmetric-3.ensures, c.hi-then-all_symmetric-2.ensures, c.hi-then-all_symmetric.ensures, c.hi.ensures)
    (slope-is c.args.b c.args.bd
    c.args.a c.args.ad
    c.args.c c.args.cd
    c.args.d c.args.dd
    (sym c.all_symmetric.ensures ∙ c.if-all_symmetric.true))

pub returns : goal.returns
unfolding slope_of
returns c = rw (
  c.add.ensures,
  c.add-y.ensures,
  c.times-2.ensures,
  c.mul-2.ensures,
  c.add-x.ensures,
  c.times.ensures,
  c.mul.ensures,
)
