-- `elevation::put_knots::put_knots` meets its contract.
-- Assumes nothing.
use borrow.Author.Rules.{rules}
use native.Mathlib.Omega.{arith}
use Prim.Native.Nat.{◌+◌}
use mathlib.Core.Path.{sym}
use lib.Seq.{length-take-le}
use Rattle.elevation.proofs.KnotWalks.{front-room, breaks-room, end-room, knots-whole}
use Rattle.elevation.proofs.put_knots.put_knots.Goals as goal

pub slice_bounds-fill-end : goal.slice_bounds-fill-end
slice_bounds-fill-end c = front-room _ _ _ _ _ _ c.requires.knots_in_bounds

pub slice_bounds-fill-end-2 : goal.slice_bounds-fill-end-2
slice_bounds-fill-end-2 c = sym (length-take-le (c.args.e + 1) c.args.out.now (front-room _ _ _ _ _ _ c.requires.knots_in_bounds))

pub put_breaks-at-requires : goal.put_breaks-at-requires
put_breaks-at-requires c = let q = c.requires in
    record {
      p_lt_n = (q.p_lt_n.0, omega arith, q.p_lt_n.2);
      knots_in_bounds = breaks-room _ _ _ _ _ _ q.knots_in_bounds _ (c.fill.ensures.after (λ y h. h));
    }

pub slice_bounds-fill-end-3 : goal.slice_bounds-fill-end-3
slice_bounds-fill-end-3 c = let b = c.put_breaks-at.ensures in
    let l = end-room _ _ _ _ _ _ c.requires.knots_in_bounds _ (c.fill.ensures.after (λ y h. h)) _ b.1 _ b.0 in search rules

pub overflow_add-at : goal.overflow_add-at
overflow_add-at c = let b = c.put_breaks-at.ensures in
    let l = end-room _ _ _ _ _ _ c.requires.knots_in_bounds _ (c.fill.ensures.after (λ y h. h)) _ b.1 _ b.0 in search rules

pub offset_bounds-out-at : goal.offset_bounds-out-at
offset_bounds-out-at c = let b = c.put_breaks-at.ensures in
    let l = end-room _ _ _ _ _ _ c.requires.knots_in_bounds _ (c.fill.ensures.after (λ y h. h)) _ b.1 _ b.0 in search rules

pub returns : goal.returns
returns c = let b = c.put_breaks-at.ensures in
    knots-whole _ _ _ _ _ _ c.requires.knots_in_bounds _ (c.fill.ensures.after (λ y h. h)) _ b.1 _ b.0 _ _ (omega arith) (c.fill-2.ensures.after (λ y h. h))
