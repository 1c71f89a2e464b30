-- One piece, stored into cleared bytes.
-- Assumes nothing.
use mathlib.Core.Path.{◌≡◌}
use lib.ListN.{length}
use borrow.Author.Rules.{rules}
use Rattle.listing.proofs.Lines.{front-shown}
use Rattle.drawing.proofs.only_text.Goals as goal

pub returns : goal.returns
returns c = let long : length c.args.out.now ≡ 2304 = search rules in
    let t = c.put_text.ensures in
    front-shown 2304 _ c.clear_bytes.ensures long (t.roomy (search rules)) (search rules)
