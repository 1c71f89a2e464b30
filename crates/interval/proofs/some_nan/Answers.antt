use Rattle.interval.specs.Ops.{some_nan}
use Rattle.interval.proofs.some_nan.Goals as goal

pub returns-then-is_nan : goal.returns-then-is_nan
unfolding some_nan
returns-then-is_nan c = rw (← c.is_nan.ensures, c.if-is_nan.true)

pub returns-then-is_nan-2 : goal.returns-then-is_nan-2
unfolding some_nan
returns-then-is_nan-2 c = rw (← c.is_nan.ensures, c.if-is_nan.false, ← c.is_nan-2.ensures, c.if-is_nan-2.true)

pub returns-then-is_nan-3 : goal.returns-then-is_nan-3
unfolding some_nan
returns-then-is_nan-3 c = rw (
  ← c.is_nan.ensures,
  c.if-is_nan.false,
  ← c.is_nan-2.ensures,
  c.if-is_nan-2.false,
  ← c.is_nan-3.ensures,
  c.if-is_nan-3.true,
)

pub returns : goal.returns
unfolding some_nan
returns c = rw (
  ← c.is_nan.ensures,
  c.if-is_nan.false,
  ← c.is_nan-2.ensures,
  c.if-is_nan-2.false,
  ← c.is_nan-3.ensures,
  c.if-is_nan-3.false,
)
    c.is_nan-4.ensures
