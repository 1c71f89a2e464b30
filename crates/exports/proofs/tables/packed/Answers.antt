-- `exports::tables::packed` meets its contract.
-- Assumes nothing.
use Rattle.exports.specs.Tables.{packed_of}
use borrow.Author.Rules.{rules}
use Rattle.exports.proofs.tables.packed.Goals as goal

pub returns : goal.returns
unfolding packed_of
returns c = search rules
