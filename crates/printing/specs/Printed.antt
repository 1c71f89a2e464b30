-- What is printed, by its kind.
-- Assumes nothing.
use Rattle.std.specs.Prelude.{ℕ, Bool, true, false, List, Float}
use Rattle.listing.specs.Text.{refusal_line}
use Rattle.listing.specs.Listing.{line_of as span_of}
use Rattle.listing.specs.Boxes.{box_of}
use Rattle.drawing.specs.Drawing.{head_text, point_text, middle_text, tail_text, drawn_of}
use Rattle.printing.specs.declared.Kind.{Kind}
use Rattle.printing.specs.declared.Kind.TheVariants.{Spans, Boxes, Speeds, Drawing}
use Rattle.printing.specs.declared.pieces.Piece.{Piece}
use Rattle.printing.specs.declared.pieces.Piece.TheVariants.{Refusal, Head, Point, Middle, Tail}

-- the line of part j of a curve's span, where a span has parts
unfoldable pub line_of : Kind → ℕ → List Float → List Float → Bool → List Float → ℕ → ℕ → List ℕ
line_of Spans p ks ps r ws j = span_of ks
line_of Boxes p ks ps r ws j = box_of false p ks ps r ws
line_of Speeds p ks ps r ws j = box_of true p ks ps r ws
line_of Drawing p ks ps r ws j = drawn_of p ks ps r ws j

abbrev pub piece_text : Piece → List ℕ
piece_text (Refusal r) = refusal_line r
piece_text (Head v) = head_text v
piece_text (Point x y) = point_text x y
piece_text Middle = middle_text
piece_text Tail = tail_text
