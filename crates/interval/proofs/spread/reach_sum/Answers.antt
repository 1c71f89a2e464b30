use Rattle.std.proofs.Common.{sym, ap, ◌∙◌}
use Rattle.interval.specs.declared.Interval.{Interval}
use Rattle.interval.proofs.Symmetric.{sum-box}
use Rattle.interval.proofs.spread.reach_sum.Goals as goal

pub returns-then-is_nan : goal.returns-then-is_nan
returns-then-is_nan c = let a = c.args in
    rw (ap (λ (i : Interval). i.hi) (sum-box a.a a.b), ← c.is_nan.ensures, c.if-is_nan.true) c.infinity.ensures

pub above-requires : goal.above-requires
above-requires c = sym c.is_nan.ensures ∙ c.if-is_nan.false

pub returns : goal.returns
returns c = let a = c.args in
    rw (ap (λ (i : Interval). i.hi) (sum-box a.a a.b), ← c.is_nan.ensures, c.if-is_nan.false) c.above.ensures
