-- `exports::tables::half` meets its contract.
-- Assumes nothing.
use mathlib.Core.Path.{refl}
use native.Mathlib.Omega.{arith}
use borrow.Author.Tests.{lt-ltb, le-ltb}
use Rattle.exports.proofs.tables.half.Goals as goal

pub returns-then-place-gt4294967295-clause-value : goal.returns-then-place-gt4294967295-clause-value
returns-then-place-gt4294967295-clause-value c = rw (lt-ltb _ _ c.if-place-gt4294967295.true) refl

pub returns-then-place-gt4294967295-clause-upper_bound : goal.returns-then-place-gt4294967295-clause-upper_bound
returns-then-place-gt4294967295-clause-upper_bound c = omega arith

pub returns-clause-value : goal.returns-clause-value
returns-clause-value c = rw (le-ltb _ _ c.if-place-gt4294967295.false) refl

pub returns-clause-upper_bound : goal.returns-clause-upper_bound
returns-clause-upper_bound c = omega arith
