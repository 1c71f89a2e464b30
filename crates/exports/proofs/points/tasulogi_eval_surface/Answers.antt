-- `exports::points::tasulogi_eval_surface` meets its contract.
-- Assumes nothing.
use Rattle.exports.specs.Points.{surface_answer}
use Rattle.exports.proofs.Put.{leaves_by}
use mathlib.Core.Path.{ap}
use Rattle.exports.proofs.points.tasulogi_eval_surface.Goals as goal

pub returns : goal.returns
returns c = leaves_by (ap surface_answer c.eval_surface.ensures) c.put_surface.ensures
