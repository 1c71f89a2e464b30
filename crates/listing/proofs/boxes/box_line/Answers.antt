-- The three parts of a line, stored into cleared bytes.
-- Assumes nothing.
use mathlib.Core.Path.{◌≡◌}
use mathlib.Core.List.{append_assoc}
use native.Mathlib.Omega.{arith}
use lib.ListN.{length}
use borrow.Author.Rules.{rules}
use Rattle.decimals.proofs.Storing.{both_stored, one-stored}
use Rattle.listing.proofs.Lines.{front-shown}
use Rattle.listing.specs.Boxes.{box_line}
use Rattle.listing.proofs.boxes.box_line.Goals as goal

pub returns : goal.returns
unfolding box_line
returns c = let long : length c.args.out.now ≡ 2304 = search rules in
    let a = c.put_start-a.ensures in
    let b = c.put_outcome-b.ensures in
    simp append_assoc at (front-shown 2304 _ c.clear_bytes.ensures long (both_stored a.stored (both_stored b.stored (one-stored _ _ 10))) (omega arith))
