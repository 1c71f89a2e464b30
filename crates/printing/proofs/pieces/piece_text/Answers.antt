-- Each piece's own text.
-- Assumes nothing.
use Rattle.printing.proofs.pieces.piece_text.Goals as goal

pub returns-in-Refusal : goal.returns-in-Refusal
returns-in-Refusal c = rw c.in-Refusal.is c.refusal_line.ensures

pub returns-in-Head : goal.returns-in-Head
returns-in-Head c = rw c.in-Head.is c.head_text.ensures

pub returns-in-Point : goal.returns-in-Point
returns-in-Point c = rw c.in-Point.is c.point_text.ensures

pub returns-in-Middle : goal.returns-in-Middle
returns-in-Middle c = rw c.in-Middle.is c.middle_text.ensures

pub returns-in-Tail : goal.returns-in-Tail
returns-in-Tail c = rw c.in-Tail.is c.tail_text.ensures
