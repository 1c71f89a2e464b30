-- `exports::rows::tasulogi_eval2_many` meets its contract.
-- Assumes nothing.
use Rattle.exports.proofs.Settled.{settled-rows}
use Rattle.exports.specs.Rows.{rows_number}
use Rattle.exports.proofs.rows.tasulogi_eval2_many.Goals as goal

pub returns : goal.returns
returns c = let all = settled-rows rows_number c.rows_number.ensures c.eval2_many.ensures in
    record { value = all.0; points2meet = all.1 }
