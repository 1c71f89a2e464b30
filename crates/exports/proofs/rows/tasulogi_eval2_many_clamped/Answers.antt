-- `exports::rows::tasulogi_eval2_many_clamped` meets its contract.
-- Assumes nothing.
use Rattle.exports.proofs.Settled.{settled-rows}
use Rattle.exports.specs.Rows.{rows_number}
use Rattle.exports.proofs.rows.tasulogi_eval2_many_clamped.Goals as goal

pub returns : goal.returns
returns c = let all = settled-rows rows_number c.rows_number.ensures c.eval2_many_clamped.ensures in
    record { value = all.0; points2meet = all.1 }
