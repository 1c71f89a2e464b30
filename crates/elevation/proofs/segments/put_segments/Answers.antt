-- `elevation::segments::put_segments` meets its contract.
-- Assumes nothing.
use borrow.Author.Rules.{rules}
use native.Mathlib.Omega.{arith}
use Prim.Native.Nat.{ℕ, ◌+◌}
use mathlib.Core.Path.{◌∙◌, ap}
use Rattle.elevation.specs.Breaks.{breaks_of}
use Rattle.elevation.specs.Passes.{breaks_left}
use Rattle.elevation.proofs.SegmentWalk.{first-room, first-stop, rest-start, rest-room, rest-stop, rest-more, rest-end}
use Rattle.elevation.proofs.segments.put_segments.Goals as goal

pub put_segment-requires : goal.put_segment-requires
put_segment-requires c = let a = c.args in
    let w = c.requires in
    let q = first-room a.p a.e a.knots.now (breaks_of a.p a.n a.knots.now) a.rational in
    let x = q.0 in
    let y = q.1 in
    let z = q.2 in
    let r = w.knots_in_bounds in
    let s = w.knots_in_bounds_2 in
    let t = w.knots_in_bounds_3 in
    record {
      p_le_e = (w.p_lt_n.2, w.p_lt_n.3);
      p_in_bounds = omega arith;
      full_in_bounds = omega arith;
      full_in_bounds_2 = omega arith;
    }

pub returns-then-not-put_segment : goal.returns-then-not-put_segment
returns-then-not-put_segment c = let w = c.requires in
    first-stop _ _ _ _ _ _ _ _ _ w.p_lt_n.2 w.knots_in_bounds w.knots_in_bounds_2 w.knots_in_bounds_3 _ _ _ c.put_segment.ensures c.if-not-put_segment.true

pub loop-t-init : goal.loop-t-init
loop-t-init c = let w = c.requires in
    rest-start
    _ _ _ _ _ _ _ _ _ w.p_lt_n.2 w.knots_in_bounds w.knots_in_bounds_2 w.knots_in_bounds_3 _ _ _ c.put_segment.ensures c.if-not-put_segment.false _
    (ap breaks_left c.into_iter-t-iterator.ensures.into_iter_gives ∙ c.new-t-items.ensures)

pub put_segment-requires-in-loop-t : goal.put_segment-requires-in-loop-t
put_segment-requires-in-loop-t c = let w = c.requires in
    let r = rest-room
    _ _ _ _ _ _ _ _ _ w.p_lt_n.2 w.knots_in_bounds w.knots_in_bounds_2 w.knots_in_bounds_3 _ _ _ _ _ c.loop-t.invariant _ _ c.in-Some.ensures.steps _ c.is_full-full.ensures in
    record { p_le_e = (w.p_lt_n.2, w.p_lt_n.3); p_in_bounds = r.0; full_in_bounds = r.1; full_in_bounds_2 = r.2 }

pub returns-then-not-put_segment-2 : goal.returns-then-not-put_segment-2
returns-then-not-put_segment-2 c = let w = c.requires in
    rest-stop
    _ _ _ _ _ _ _ _ _ w.p_lt_n.2 w.knots_in_bounds w.knots_in_bounds_2 w.knots_in_bounds_3 _ _ _ _ _ c.loop-t.invariant _ _ c.in-Some.ensures.steps _ c.is_full-full.ensures
    _ _ _ c.put_segment-in-loop-t.ensures c.if-not-put_segment-2.true

pub overflow_add-first-in-loop-t-2 : goal.overflow_add-first-in-loop-t-2
overflow_add-first-in-loop-t-2 c = let w = c.requires in
    let r = rest-room
    _ _ _ _ _ _ _ _ _ w.p_lt_n.2 w.knots_in_bounds w.knots_in_bounds_2 w.knots_in_bounds_3 _ _ _ _ _ c.loop-t.invariant _ _ c.in-Some.ensures.steps _ c.is_full-full.ensures in
    let x = r.0 in
    search rules

pub overflow_add-place-in-loop-t-2 : goal.overflow_add-place-in-loop-t-2
overflow_add-place-in-loop-t-2 c = let w = c.requires in
    let r = rest-room
    _ _ _ _ _ _ _ _ _ w.p_lt_n.2 w.knots_in_bounds w.knots_in_bounds_2 w.knots_in_bounds_3 _ _ _ _ _ c.loop-t.invariant _ _ c.in-Some.ensures.steps _ c.is_full-full.ensures in
    let x = r.1 in
    let b = c.bit_of.ensures in
    let l = c.loop-t.invariant.going.long-points in
    search rules

pub loop-t-preserved : goal.loop-t-preserved
loop-t-preserved c = let w = c.requires in
    rest-more
    _ _ _ _ _ _ _ _ _ w.p_lt_n.2 w.knots_in_bounds w.knots_in_bounds_2 w.knots_in_bounds_3 _ _ _ _ _ c.loop-t.invariant _ _ c.in-Some.ensures.steps _ c.is_full-full.ensures
    _ _ _ c.put_segment-in-loop-t.ensures c.if-not-put_segment-2.false _ (ap (λ (x : ℕ). c.loop-t.place + (c.args.e + x)) c.bit_of.ensures)

pub returns : goal.returns
returns c = let w = c.requires in
    rest-end _ _ _ _ _ _ _ _ _ w.p_lt_n.2 w.knots_in_bounds w.knots_in_bounds_2 w.knots_in_bounds_3 _ _ _ _ _ c.loop-t.invariant c.in-None.ensures.steps.0
