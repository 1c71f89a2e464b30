-- `many::boxes::put_row` meets its contract.
-- Assumes nothing.
use Prim.Native.Nat.{◌*◌}
use Rattle.runs.proofs.Stores.{stored-two}
use Rattle.many.proofs.Bounded.{box-stored}
use Rattle.many.proofs.boxes.put_row.Goals as goal

pub returns : goal.returns
returns c = let a = c.args in
    record {
      marks_after = stored-two a.marks.now (a.i * 2) a.s a.row.number;
      boxes_after = box-stored a.row a.boxes.now a.i _ _ _ c.store_triple.ensures c.store_triple-2.ensures c.store_triple-3.ensures;
    }
