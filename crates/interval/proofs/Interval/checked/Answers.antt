use Rattle.interval.specs.Ops.{checked_of}
use Rattle.interval.proofs.Interval.checked.Goals as goal

pub returns-then-is_nan : goal.returns-then-is_nan
unfolding checked_of
returns-then-is_nan c = rw (← c.is_nan.ensures, c.if-is_nan.true) c.entire.ensures

pub returns-then-is_nan-2 : goal.returns-then-is_nan-2
unfolding checked_of
returns-then-is_nan-2 c = rw (← c.is_nan.ensures, c.if-is_nan.false, ← c.is_nan-2.ensures, c.if-is_nan-2.true) c.entire-then-is_nan-2.ensures

pub returns : goal.returns
unfolding checked_of
returns c = rw (← c.is_nan.ensures, c.if-is_nan.false, ← c.is_nan-2.ensures, c.if-is_nan-2.false)
