-- `elevation::raise::raise_at` meets its contract.
-- Assumes nothing.
use Rattle.elevation.specs.Passes.{control_in}
use Rattle.elevation.proofs.RaiseLoop.{raise-mid}
use Rattle.elevation.proofs.raise.raise_at.Goals as goal

pub returns : goal.returns
returns c = let a = c.args in
    let q = c.requires in
    raise-mid
    a.d (control_in a.rows.now) a.i q.d_bound.1 q.d_bound.2 _ _ _ _ c.row_at.ensures c.row_at-before.ensures c.raise_share-s.ensures
    c.blend_of.ensures
