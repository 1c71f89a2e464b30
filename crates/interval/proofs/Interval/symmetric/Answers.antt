use Rattle.std.proofs.Common.{sym, ap, ◌∙◌}
use Rattle.interval.specs.Ops.{opposites_of, symmetric_of}
use Rattle.interval.proofs.Interval.symmetric.Goals as goal

pub returns-then-is_nan : goal.returns-then-is_nan
unfolding symmetric_of
returns-then-is_nan c = rw (← c.is_nan.ensures, c.if-is_nan.true) c.entire.ensures

pub absolute-m-requires : goal.absolute-m-requires
absolute-m-requires c = sym c.is_nan.ensures ∙ c.if-is_nan.false

pub returns : goal.returns
unfolding symmetric_of
returns c = rw (← c.is_nan.ensures, c.if-is_nan.false) (ap opposites_of c.absolute-m.ensures)
