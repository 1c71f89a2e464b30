-- `many::row::no_row` meets its contract.
-- Assumes nothing.
use mathlib.Core.Path.{◌∙◌, ap, ap₂}
use Rattle.runs.specs.declared.vector.Vector.{Vector}
use Rattle.many.specs.Points.{origin}
use Rattle.many.proofs.Evaluated.{bare}
use Rattle.many.proofs.row.no_row.Goals as goal

pub returns : goal.returns
returns c = let n = c.args.r.number in
    ap₂ (λ (x y : Vector). bare n x y c.origin-3.result) c.origin.ensures c.origin-2.ensures ∙ ap (bare n origin origin) c.origin-3.ensures
