-- Two pieces, one behind the other, where there is room.
-- Assumes nothing.
use Prim.Native.Nat.{◌+◌, ◌≤◌}
use mathlib.Core.Path.{sym, ◌∙◌}
use native.Mathlib.Omega.{arith}
use lib.ListN.{length}
use borrow.Author.Tests.{leb-true, leb-false}
use borrow.Author.Rules.{rules}
use Rattle.decimals.proofs.Storing.{put-stored, put-nothing, text-stored, both_stored}
use Rattle.decimals.specs.Fixed.{fixed}
use Rattle.decimals.proofs.pieces.put_number.Goals as goal

pub store-next-requires : goal.store-next-requires
store-next-requires c = omega (arith, (let has' : c.args.at + (length c.args.lead.now + 330) ≤ length c.args.out.now = leb-true _ _ (sym c.has_room.ensures ∙ c.if-has_room.true) in has'))

pub put_fixed-requires : goal.put_fixed-requires
put_fixed-requires c = let room = (let has' : c.args.at + (length c.args.lead.now + 330) ≤ length c.args.out.now = leb-true _ _ (sym c.has_room.ensures ∙ c.if-has_room.true) in has') in
    search rules

pub returns-then-has_room : goal.returns-then-has_room
returns-then-has_room c = let a = c.args in
    let room = (let has' : c.args.at + (length c.args.lead.now + 330) ≤ length c.args.out.now = leb-true _ _ (sym c.has_room.ensures ∙ c.if-has_room.true) in has') in
    let s = c.store-next.ensures in
    let n = c.put_fixed.ensures in
    put-stored _ room (both_stored s.stored (text-stored (fixed a.up a.x) n.out_after n.value)) (omega arith)

pub returns : goal.returns
returns c = put-nothing _ _ _ _ (leb-false _ _ (sym c.has_room.ensures ∙ c.if-has_room.false))
