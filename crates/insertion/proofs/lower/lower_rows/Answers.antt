-- `insertion::lower::lower_rows` meets its contract.
-- Assumes nothing.
use mathlib.Core.Path.{refl, sym, ◌∙◌}
use Prim.Native.Nat.{◌+◌, ◌*◌, ◌<◌, ◌≤◌}
use native.Mathlib.Omega.{arith}
use lib.ListN.{length}
use Rattle.edits.proofs.RowReads.{row-part}
use Rattle.edits.proofs.RowStores.{row-part-long, row-put-part}
use Rattle.insertion.proofs.LowerLoop.{lower-start, lower-stop, lower-more, lower-bad, lower-end}
use Rattle.insertion.proofs.lower.lower_rows.Goals as goal

pub loop-i-init : goal.loop-i-init
loop-i-init c = let a = c.args in lower-start a.spot.p a.spot.k a.spot.s a.spot.t a.n a.a a.o a.rational a.rows.now _ c.row_at-before.ensures

pub returns-then-not-is_blended : goal.returns-then-not-is_blended
returns-then-not-is_blended c = let a = c.args in
    let l = c.loop-i in
    let q = c.requires in
    let t : l.i ≤ a.n = omega arith in
    lower-stop a.spot.p a.spot.k a.spot.s a.spot.t a.n a.a a.o a.rational a.rows.now q.s_le_p.0 q.s_le_p.1 q.k_lt_n.0 q.k_lt_n.1 _ _ _ l.i l.invariant
    t _ (c.row_at-here.ensures ∙ row-part a.rational _ l.i) _ c.blend_at-q.ensures
    (sym c.is_blended.ensures ∙ c.if-not-is_blended.true) _ c.refuse.ensures

pub loop-i-preserved : goal.loop-i-preserved
loop-i-preserved c = let a = c.args in let l = c.loop-i in
    let q = c.requires in
    let t : l.i ≤ a.n = omega arith in
    let room : l.i * 4 + 3 < length l.rows = (let x = q.k_lt_n.1 in let y = q.p_in_bounds in let z = l.invariant.done.long in omega arith) in
    lower-more a.spot.p a.spot.k a.spot.s a.spot.t a.n a.a a.o a.rational a.rows.now q.s_le_p.0 q.s_le_p.1 q.k_lt_n.0 q.k_lt_n.1 _ _ _ l.i l.invariant
    t _ (c.row_at-here.ensures ∙ row-part a.rational _ l.i) _
    c.blend_at-q.ensures
    (sym c.is_blended.ensures ∙ c.if-not-is_blended.false) _
    c.lower_of-v.ensures _ _ c.finite_vector-fine.ensures refl _
    c.kept_row.ensures _ (row-part-long l.i _ _ room a.rational _ c.put_row.ensures)
    (row-put-part l.i _ _ room a.rational _ _ c.put_row.ensures refl)

pub returns-then-not-fine : goal.returns-then-not-fine
returns-then-not-fine c = let a = c.args in let l = c.loop-i in
    let t = c.loop-i-test.false in
    lower-bad a.spot.p a.spot.k a.spot.s a.spot.t a.n a.a a.o a.rational a.rows.now _ _ _ l.i l.invariant (omega arith)
    c.if-not-fine.true _ _ c.non_finite_row-first.ensures c.refuse_at.ensures

pub returns : goal.returns
returns c = let a = c.args in let l = c.loop-i in let t = c.loop-i-test.false in
    lower-end a.spot.p a.spot.k a.spot.s a.spot.t a.n a.a a.o a.rational a.rows.now _ _ _ l.i l.invariant (omega arith)
    c.if-not-fine.false
