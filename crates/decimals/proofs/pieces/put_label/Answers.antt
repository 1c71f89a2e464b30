-- Two pieces, one behind the other, where there is room.
-- Assumes nothing.
use Prim.Native.Nat.{◌+◌, ◌≤◌}
use mathlib.Core.Path.{sym, ◌∙◌}
use native.Mathlib.Omega.{arith}
use lib.ListN.{length}
use borrow.Author.Tests.{leb-true, leb-false}
use borrow.Author.Rules.{rules}
use Rattle.decimals.proofs.Storing.{put-stored, put-nothing, text-stored, both_stored}
use Rattle.decimals.specs.Text.{decimal}
use Rattle.decimals.proofs.pieces.put_label.Goals as goal

pub store-next-requires : goal.store-next-requires
store-next-requires c = omega (arith, (let has' : c.args.at + (length c.args.lead.now + 20) ≤ length c.args.out.now = leb-true _ _ (sym c.has_room.ensures ∙ c.if-has_room.true) in has'))

pub put_decimal-requires : goal.put_decimal-requires
put_decimal-requires c = let room = (let has' : c.args.at + (length c.args.lead.now + 20) ≤ length c.args.out.now = leb-true _ _ (sym c.has_room.ensures ∙ c.if-has_room.true) in has') in
    search rules

pub returns-then-has_room : goal.returns-then-has_room
returns-then-has_room c = let room = (let has' : c.args.at + (length c.args.lead.now + 20) ≤ length c.args.out.now = leb-true _ _ (sym c.has_room.ensures ∙ c.if-has_room.true) in has') in
    let s = c.store-next.ensures in
    let n = c.put_decimal.ensures in
    put-stored _ room (both_stored s.stored
    (text-stored (decimal c.args.n) n.out_after n.value)) (omega arith)

pub returns : goal.returns
returns c = put-nothing _ _ _ _ (leb-false _ _ (sym c.has_room.ensures ∙ c.if-has_room.false))
