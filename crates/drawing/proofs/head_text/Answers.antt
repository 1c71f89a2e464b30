-- Two pieces, stored into cleared bytes.
-- Assumes nothing.
use mathlib.Core.Path.{◌≡◌}
use mathlib.Core.Bool.{true, false}
use lib.ListN.{length}
use borrow.Author.Rules.{rules}
use Rattle.decimals.proofs.Storing.{parts-stored}
use Rattle.listing.proofs.Lines.{front-shown}
use Rattle.decimals.specs.Ascii.{ascii}
use Rattle.drawing.specs.Drawing.{number, head_text, opening}
use Rattle.drawing.proofs.head_text.Goals as goal

pub returns : goal.returns
unfolding head_text number ascii
returns c = let long : length c.args.out.now ≡ 2304 = search rules in
    let v = c.args.view in
    let a = c.put_corners-a.ensures in
    let d = c.put_text.ensures in
    let all = parts-stored (number opening false v.x) (number " " false v.y) (number " " true v.width) (number " " true v.height) a.stored (d.roomy (search rules)) in
    front-shown 2304 _ c.clear_bytes.ensures long all (search rules)
