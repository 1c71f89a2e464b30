use Rattle.std.proofs.Common.{sym, ap, ◌∙◌}
use Rattle.interval.specs.Ops.{opposites_of}
use Rattle.interval.proofs.Symmetric.{product_is}
use Rattle.interval.proofs.spread.product.Goals as goal

pub returns : goal.returns
returns c = ap opposites_of c.reach-m.ensures ∙ sym (product_is c.args.s c.args.a)
