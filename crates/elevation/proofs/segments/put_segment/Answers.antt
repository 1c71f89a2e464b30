-- `elevation::segments::put_segment` meets its contract.
-- Assumes nothing.
use native.Mathlib.Omega.{arith}
use Prim.Native.Nat.{ℕ, ◌+◌, ◌≤◌}
use mathlib.Core.Path.{sym, subst, ap}
use lib.ListN.{length}
use Rattle.edits.specs.Rows.{given}
use Rattle.elevation.proofs.SegmentWalk.{skip-sum, segment-put}
use borrow.Author.Rules.{rules}
use Rattle.edits.proofs.CountLoop.{bit_le}
use Rattle.elevation.proofs.segments.put_segment.Goals as goal

pub overflow_add-m : goal.overflow_add-m
overflow_add-m c = let u = c.requires.p_le_e.1 in
    let b = bit_le c.args.full in let r = c.bit_of.ensures in search rules

pub put_rows-requires : goal.put_rows-requires
put_rows-requires c = let as₁ = c.args in
    let pr = c.requires in
    let s = skip-sum as₁.full as₁.e in
    let k = c.load_rows.ensures.long in
    let l = c.raise_rows.ensures.long in
    let u = pr.p_le_e.1 in
    let a = c.bit_of-skipped.ensures in
    let m = c.bit_of.ensures in
    let q = pr.full_in_bounds in
    record {
      m_in_bounds = omega arith;
      m_in_bounds_2 = omega arith;
      m_in_bounds_3 = subst (λ (x : ℕ). given as₁.rational (as₁.place + (as₁.e + x)) ≤ length as₁.weights.now) (sym m) pr.full_in_bounds_2;
    }

pub returns : goal.returns
returns c = let a = c.args in
    segment-put
    a.p a.e a.first c.requires.p_le_e.0
    a.full a.o a.rational a.work.now _ _ _ _ c.load_rows.ensures
    c.raise_rows.ensures _ _ a.place
    c.bit_of-skipped.ensures
    (ap (λ (x : ℕ). a.e + x) c.bit_of.ensures) a.points.now a.weights.now _ _ _
    c.put_rows.ensures
