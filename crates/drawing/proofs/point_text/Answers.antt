-- Three pieces, stored into cleared bytes.
-- Assumes nothing.
use mathlib.Core.Path.{◌≡◌}
use native.Mathlib.Omega.{arith}
use lib.ListN.{length}
use borrow.Author.Rules.{rules}
use Rattle.decimals.proofs.Storing.{both_stored, one-stored}
use Rattle.listing.proofs.Lines.{front-shown}
use Rattle.decimals.specs.Ascii.{ascii}
use Rattle.drawing.specs.Drawing.{number, point_text}
use Rattle.drawing.proofs.point_text.Goals as goal

pub returns : goal.returns
unfolding point_text number ascii
returns c = let long : length c.args.out.now ≡ 2304 = search rules in
    let x = c.put_number-a.ensures in
    let y = c.put_number-b.ensures in
    front-shown 2304 _ c.clear_bytes.ensures long
    (both_stored (x.roomy (search rules)) (both_stored (y.roomy (search rules)) (one-stored _ _ 10))) (omega arith)
