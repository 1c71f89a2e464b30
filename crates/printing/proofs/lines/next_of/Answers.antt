-- Each kind's own line.
-- Assumes nothing.
use Rattle.printing.specs.Printed.{line_of}
use Rattle.printing.proofs.lines.next_of.Goals as goal

pub returns-in-Spans : goal.returns-in-Spans
unfolding line_of
returns-in-Spans c = rw c.in-Spans.is c.next_line.ensures

pub returns-in-Boxes : goal.returns-in-Boxes
unfolding line_of
returns-in-Boxes c = rw c.in-Boxes.is c.next_box.ensures

pub returns-in-Speeds : goal.returns-in-Speeds
unfolding line_of
returns-in-Speeds c = rw c.in-Speeds.is c.next_box-in-Speeds.ensures

pub returns-in-Drawing : goal.returns-in-Drawing
unfolding line_of
returns-in-Drawing c = rw c.in-Drawing.is c.next_path.ensures
