use mathlib.Core.Path.{sym, ◌∙◌}
use Rattle.interval.proofs.Symmetric.{symmetric-right}
use Rattle.jets.proofs.net.times.Goals as goal

pub returns-then-is_symmetric : goal.returns-then-is_symmetric
returns-then-is_symmetric c = rw (c.product.ensures, c.hi.ensures) (symmetric-right c.args.d c.args.a
    (sym c.is_symmetric.ensures ∙ c.if-is_symmetric.true))

pub returns : goal.returns
returns c = c.mul.ensures
