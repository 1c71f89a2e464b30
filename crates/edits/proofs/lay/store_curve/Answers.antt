-- `edits::lay::store_curve` meets its contract.
-- Assumes nothing.
use mathlib.Core.Path.{◌∙◌, ap}
use Prim.Native.Nat.{◌+◌, ◌*◌}
use native.Mathlib.Omega.{arith}
use mathlib.Core.List.{List}
use lib.ListN.{length-take, length-drop, length, take}
use lib.Ieee.{Float}
use Rattle.runs.specs.Lent.{padded}
use Rattle.runs.proofs.Cleared.{copied-whole}
use Rattle.edits.proofs.Starting.{rest_all}
use Rattle.edits.proofs.RowReads.{given-room}
use Rattle.edits.proofs.IntoRun.{slice_is, points-stored, weights-stored}
use Rattle.edits.proofs.lay.store_curve.Goals as goal

pub slice_bounds-take_rows-end-3 : goal.slice_bounds-take_rows-end-3
slice_bounds-take_rows-end-3 c = let a = c.args in
    let p = c.requires.m_bound.0 in
    let q = c.requires.m_bound.1 in let e = length-drop (a.f * 4) a.work.now in simp length-take (omega arith)

pub take_rows-requires : goal.take_rows-requires
take_rows-requires c = let a = c.args in
    let pr = c.requires in let q = pr.m_bound.1 in let p = pr.m_bound.0 in let s = pr.m_in_bounds in
    let e = length-drop (a.f * 4) a.work.now in
    record {
      n_in_bounds = simp length-take (omega arith);
      points_len = length-take (a.m * 3) a.points.now ∙ omega arith;
      n_in_bounds_2 = given-room a.rational a.m _ pr.m_in_bounds_2;
    }

pub returns : goal.returns
returns c = let a = c.args in
    let k = c.requires.p_in_bounds in let s = slice_is (a.a + a.f) (a.m + a.p + 1) a.work.now in
    record {
      knots_after = c.copy_run.ensures ∙
          (ap (λ (l : List Float). padded (length a.knots.now) (take (length a.knots.now) l)) s ∙ copied-whole (length a.knots.now) _ (simp length-take (omega arith)));
      points_after = points-stored a.rational a.m (a.f * 4) a.work.now (rest_all (a.f * 4) a.work.now) _ _ _
          c.requires.m_in_bounds c.take_rows.ensures.points_after
          c.clear_from.ensures;
      weights_after = weights-stored a.rational a.m (a.f * 4) a.work.now (rest_all (a.f * 4) a.work.now) _ c.given_count.ensures _ _ _
          c.take_rows.ensures.weights_after
          c.weights-1.given c.clear_from-2.ensures;
    }
