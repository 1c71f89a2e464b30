-- `exports::tables::directed` meets its contract.
-- Assumes nothing.
use native.Mathlib.Nat.{add-zero}
use borrow.Author.Tests.{lt-ltb, le-ltb, eq-eqb, ne_eqb}
use Rattle.exports.proofs.tables.directed.Goals as goal

pub returns-then-number-gt7 : goal.returns-then-number-gt7
returns-then-number-gt7 c = simp (lt-ltb _ _ c.if-number-gt7.true)

pub returns-then-r-eq0 : goal.returns-then-r-eq0
returns-then-r-eq0 c = simp (le-ltb _ _ c.if-number-gt7.false, eq-eqb _ _ c.if-r-eq0.true)

pub returns-then-r-eq1 : goal.returns-then-r-eq1
returns-then-r-eq1 c = simp (le-ltb _ _ c.if-number-gt7.false, ne_eqb _ _ c.if-r-eq0.false, eq-eqb _ _ c.if-r-eq1.true)

pub returns : goal.returns
returns c = simp (le-ltb _ _ c.if-number-gt7.false, ne_eqb _ _ c.if-r-eq0.false, ne_eqb _ _ c.if-r-eq1.false, add-zero)
