-- `exports::boxes::put_point` meets its contract.
-- Assumes nothing.
use mathlib.Core.Path.{sym}
use Rattle.exports.specs.Boxes.{point_bounded_answer}
use Rattle.exports.proofs.Put.{told-values}
use Rattle.exports.proofs.Box.{put-by}
use Rattle.exports.proofs.boxes.put_point.Goals as goal

pub returns-in-Ok : goal.returns-in-Ok
returns-in-Ok c = put-by point_bounded_answer (sym c.in-Ok.is) (told-values _ c.put_triple.ensures)

pub returns-in-Err : goal.returns-in-Err
returns-in-Err c = put-by point_bounded_answer (sym c.in-Err.is) c.put_refusal.ensures
