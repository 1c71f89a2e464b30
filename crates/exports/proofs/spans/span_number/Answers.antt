-- `exports::spans::span_number` meets its contract.
-- Assumes nothing.
use native.Mathlib.Nat.{zero-add, add-zero}
use mathlib.Core.Path.{sym, ◌∙◌, ap}
use Rattle.exports.specs.Tables.{span_number}
use Rattle.exports.proofs.spans.span_number.Goals as goal

pub returns-in-Ok : goal.returns-in-Ok
returns-in-Ok c = sym (zero-add _) ∙ ap span_number (sym c.in-Ok.is)

pub returns-in-Err : goal.returns-in-Err
returns-in-Err c = c.high.ensures ∙ sym (add-zero _) ∙ ap span_number (sym c.in-Err.is)
