-- Three pieces, one behind the other.
-- Assumes nothing.
use borrow.Author.Rules.{rules}
use Rattle.decimals.proofs.Storing.{both_stored}
use Rattle.decimals.specs.Ascii.{ascii}
use Rattle.drawing.specs.Drawing.{label, part_text, refused_text}
use Rattle.drawing.proofs.paths.put_refusal.Goals as goal

pub returns : goal.returns
unfolding refused_text part_text label ascii
returns c = let a = c.put_part-a.ensures in
    let b = c.put_label-b.ensures in
    let d = c.put_text.ensures in
    record {
      stored = both_stored a.stored (both_stored (b.roomy (search rules)) (d.roomy (search rules)));
      upper_bound = search rules;
    }
