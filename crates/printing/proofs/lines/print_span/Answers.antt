-- Each line is within its bytes.
-- Assumes nothing.
use mathlib.Core.Path.{sym, ◌∙◌}
use Rattle.listing.proofs.Walked.{told}
use Rattle.printing.proofs.lines.print_span.Goals as goal

pub slice_bounds-line-end : goal.slice_bounds-line-end
slice_bounds-line-end c = (told _ _ _ _ _ _ _ _ (sym c.in-Some.is ∙ c.next_of.ensures.value) c.next_of.ensures.shown).within

pub slice_bounds-write_all-end : goal.slice_bounds-write_all-end
slice_bounds-write_all-end c = (told _ _ _ _ _ _ _ _ (sym c.in-Some.is ∙ c.next_of.ensures.value) c.next_of.ensures.shown).whole
