-- `exports::rows::rows_number` meets its contract.
-- Assumes nothing.
use mathlib.Core.Path.{sym, ◌∙◌, ap}
use Rattle.exports.specs.Rows.{rows_number}
use Rattle.exports.specs.Tables.{packed_of}
use Rattle.exports.proofs.rows.rows_number.Goals as goal

pub returns-in-Ok : goal.returns-in-Ok
unfolding packed_of
returns-in-Ok c = ap rows_number (sym c.in-Ok.is)

pub returns-in-Err : goal.returns-in-Err
returns-in-Err c = c.packed.ensures ∙ ap rows_number (sym c.in-Err.is)
