-- Three pieces, one behind the other.
-- Assumes nothing.
use borrow.Author.Rules.{rules}
use Rattle.decimals.proofs.Storing.{both_stored}
use Rattle.decimals.specs.Ascii.{ascii}
use Rattle.drawing.specs.Drawing.{label, part_text, path_text}
use Rattle.drawing.proofs.paths.put_path.Goals as goal

pub returns : goal.returns
unfolding path_text part_text label ascii
returns c = let a = c.put_part-a.ensures in
    let b = c.put_text-b.ensures in
    let sides = rw (
      c.lo.ensures,
      c.lo-2.ensures,
      c.hi.ensures,
      c.hi-2.ensures,
    ) at c.put_sides.ensures in
    record {
      stored = both_stored a.stored (both_stored (b.roomy (search rules)) sides.stored);
      upper_bound = search rules;
    }
