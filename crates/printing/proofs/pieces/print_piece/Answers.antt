-- The text is within its bytes.
-- Assumes nothing.
use Rattle.listing.proofs.Lines.{shown-counts}
use Rattle.printing.proofs.pieces.print_piece.Goals as goal

pub slice_bounds-text-end : goal.slice_bounds-text-end
slice_bounds-text-end c = (shown-counts c.piece_text-n.ensures).0

pub slice_bounds-write_all-end : goal.slice_bounds-write_all-end
slice_bounds-write_all-end c = (shown-counts c.piece_text-n.ensures).1
