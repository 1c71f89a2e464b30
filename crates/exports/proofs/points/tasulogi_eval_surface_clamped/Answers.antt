-- `exports::points::tasulogi_eval_surface_clamped` meets its contract.
-- Assumes nothing.
use Rattle.exports.specs.Points.{surface_answer}
use Rattle.exports.proofs.Put.{leaves_by}
use mathlib.Core.Path.{ap}
use Rattle.exports.proofs.points.tasulogi_eval_surface_clamped.Goals as goal

pub returns : goal.returns
returns c = leaves_by (ap surface_answer c.eval_surface_clamped.ensures) c.put_surface.ensures
