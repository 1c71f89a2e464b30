-- Two pieces, one behind the other.
-- Assumes nothing.
use borrow.Author.Rules.{rules}
use Rattle.decimals.proofs.Storing.{both_stored}
use Rattle.decimals.specs.Ascii.{ascii}
use Rattle.drawing.specs.Drawing.{label}
use Rattle.drawing.proofs.paths.put_part.Goals as goal

pub returns : goal.returns
unfolding label ascii
returns c = let a = c.put_label-next.ensures in
    let b = c.put_label.ensures in
    record {
      stored = both_stored (a.roomy (search rules)) (b.roomy (search rules));
      upper_bound = search rules;
    }
