use Rattle.interval.proofs.Symmetric.{products-are}
use Rattle.interval.proofs.spread.sum_of_products.Goals as goal

pub returns : goal.returns
returns c = let a = c.args in
    rw (
      c.reach_sum-m.ensures,
      c.reach_sum-y.ensures,
      c.reach-4.ensures,
      c.reach-3.ensures,
      c.reach_sum-x.ensures,
      c.reach-2.ensures,
      c.reach.ensures,
    )
    (products-are a.a a.s a.b a.t a.c a.u a.d a.v)
