-- `exports::boxes::put_bounded` meets its contract.
-- Assumes nothing.
use Rattle.exports.proofs.Box.{put-by}
use Rattle.exports.specs.Boxes.{bounded_answer}
use Rattle.exports.proofs.Put.{told-values}
use mathlib.Core.Path.{sym}
use Rattle.exports.proofs.boxes.put_bounded.Goals as goal

pub returns-in-Ok : goal.returns-in-Ok
returns-in-Ok c = put-by bounded_answer (sym c.in-Ok.is) (told-values _ c.put_box.ensures)

pub returns-in-Err : goal.returns-in-Err
returns-in-Err c = put-by bounded_answer (sym c.in-Err.is) c.put_refusal.ensures
