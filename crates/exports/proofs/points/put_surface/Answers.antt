-- `exports::points::put_surface` meets its contract.
-- Assumes nothing.
use Rattle.exports.specs.Points.{surface_answer}
use Rattle.exports.proofs.Put.{leaves_by, told-values}
use mathlib.Core.Path.{sym, ap}
use Rattle.exports.proofs.points.put_surface.Goals as goal

pub returns-in-Ok : goal.returns-in-Ok
returns-in-Ok c = leaves_by (ap surface_answer (sym c.in-Ok.is)) (told-values _ c.put_three_vectors.ensures)

pub returns-in-Err : goal.returns-in-Err
returns-in-Err c = leaves_by (ap surface_answer (sym c.in-Err.is)) c.put_refusal.ensures
