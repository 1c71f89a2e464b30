-- `exports::rows::rows_count` meets its contract.
-- Assumes nothing.
use native.Mathlib.Nat.{zero-add, add-zero}
use mathlib.Core.Path.{sym, ◌∙◌, ap}
use Rattle.exports.specs.Rows.{rows_count}
use Rattle.exports.proofs.rows.rows_count.Goals as goal

pub returns-in-Ok : goal.returns-in-Ok
returns-in-Ok c = sym (zero-add _) ∙ ap rows_count (sym c.in-Ok.is)

pub returns-in-Err : goal.returns-in-Err
returns-in-Err c = c.high.ensures ∙ sym (add-zero _) ∙ ap rows_count (sym c.in-Err.is)
