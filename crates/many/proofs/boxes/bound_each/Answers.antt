-- `many::boxes::bound_each` meets its contract.
-- Assumes nothing.
use Rattle.many.proofs.boxes.bound_each.Goals as goal

pub returns : goal.returns
returns c = let p = c.bound_each_by.ensures in record { marks_after = p.marks_after; boxes_after = p.boxes_after }
