-- A label, a place and the line's end, stored into cleared bytes.
-- Assumes nothing.
use mathlib.Core.Path.{◌≡◌}
use native.Mathlib.Omega.{arith}
use lib.ListN.{length}
use Rattle.decimals.proofs.Storing.{both_stored, one-stored}
use Rattle.listing.proofs.Lines.{front-shown}
use Rattle.listing.specs.Text.{refusal_line}
use borrow.Author.Rules.{rules}
use Rattle.listing.proofs.refusal_line.Goals as goal

pub returns : goal.returns
unfolding refusal_line
returns c = let long : length c.args.out.now ≡ 2304 = search rules in
    let a = c.put_label-a.ensures in
    let b = c.put_place-b.ensures in
    front-shown 2304 _ c.clear_bytes.ensures long
    (both_stored (a.roomy (search rules)) (both_stored b.stored (one-stored _ _ 10))) (omega arith)
