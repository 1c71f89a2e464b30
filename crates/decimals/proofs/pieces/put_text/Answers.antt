-- A text, where there is room.
-- Assumes nothing.
use mathlib.Core.Path.{sym, ◌∙◌}
use borrow.Author.Tests.{leb-true, leb-false}
use Rattle.decimals.proofs.Storing.{put-stored, put-nothing}
use Rattle.decimals.proofs.pieces.put_text.Goals as goal

pub store-requires : goal.store-requires
store-requires c = leb-true _ _ (sym c.has_room.ensures ∙ c.if-has_room.true)

pub returns-then-has_room : goal.returns-then-has_room
returns-then-has_room c = put-stored _ (leb-true _ _ (sym c.has_room.ensures ∙ c.if-has_room.true)) c.store.ensures.stored
    c.store.ensures.upper_bound

pub returns : goal.returns
returns c = put-nothing _ _ _ _ (leb-false _ _ (sym c.has_room.ensures ∙ c.if-has_room.false))
