-- `many::boxes::put_row_by` meets its contract.
-- Assumes nothing.
use Prim.Native.Nat.{◌*◌}
use mathlib.Core.Bool.{Bool}
use mathlib.Core.Path.{◌∙◌, sym, ap}
use lib.Seq.{sets}
use Rattle.many.specs.Spans.{box_width, box_of_by}
use Rattle.many.proofs.boxes.put_row_by.Goals as goal

pub returns-then-alone : goal.returns-then-alone
returns-then-alone c = let a = c.args in
    let p = c.put_point_row.ensures in
    record {
      marks_after = p.marks_after;
      boxes_after = p.boxes_after ∙ ap (λ (d : Bool). sets a.boxes.now (a.i * box_width d) (box_of_by d a.row)) (sym c.if-alone.true);
    }

pub returns : goal.returns
returns c = let a = c.args in
    let p = c.put_row.ensures in
    record {
      marks_after = p.marks_after;
      boxes_after = p.boxes_after ∙ ap (λ (d : Bool). sets a.boxes.now (a.i * box_width d) (box_of_by d a.row)) (sym c.if-alone.false);
    }
