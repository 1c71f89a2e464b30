-- `many::boxes::put_point_row` meets its contract.
-- Assumes nothing.
use Prim.Native.Nat.{◌*◌}
use Rattle.runs.proofs.Stores.{stored-two}
use Rattle.many.proofs.boxes.put_point_row.Goals as goal

pub returns : goal.returns
returns c = let a = c.args in
    record {
      marks_after = stored-two a.marks.now (a.i * 2) a.s a.row.number;
      boxes_after = c.store_triple.ensures;
    }
