use mathlib.Core.Path.{sym}
use lib.Seq.{length-take-le}
use Rattle.replaying.proofs.runs.run.Goals as goal

pub slice_bounds-result-end : goal.slice_bounds-result-end
slice_bounds-result-end c = let q = c.fill-n in sym (length-take-le q.result q.new.out q.ensures)
