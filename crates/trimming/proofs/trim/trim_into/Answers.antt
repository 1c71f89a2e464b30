-- `trimming::trim::trim_into` meets its contract.
-- Assumes nothing.
use Rattle.std.proofs.lemmas.Result.{err_from_is_err_and}
use Prim.Native.Nat.{◌+◌, ◌*◌, ◌/◌}
use native.Mathlib.Omega.{arith}
use lib.ListN.{length}
use Rattle.insertion.proofs.KnotCounts.{multiplicity-most}
use Rattle.trimming.proofs.Ranges.{kept-fits}
use Rattle.trimming.proofs.Cutting.{into-refused, into-cut}
use borrow.Author.Rules.{rules}
use Rattle.trimming.proofs.trim.trim_into.Goals as goal

pub overflow_add-degree : goal.overflow_add-degree
overflow_add-degree c = let pr = c.requires in
    let v = pr.valid_curve in
    let l = v.knots.long in
    let k = v.knots.count in
    let s = v.short.knots in
    let q = pr.degree_in_bounds_2 in let g = c.well_formed in search rules

pub overflow_add-degree-2 : goal.overflow_add-degree-2
overflow_add-degree-2 c = let pr = c.requires in
    let v = pr.valid_curve in
    let l = v.knots.long in
    let k = v.knots.count in
    let s = v.short.knots in
    let q = pr.degree_in_bounds_2 in
    let g = c.well_formed in search rules

pub overflow_add-a : goal.overflow_add-a
overflow_add-a c = let pr = c.requires in
    let v = pr.valid_curve in
    let l = v.knots.long in
    let k = v.knots.count in
    let s = v.short.knots in
    let q = pr.degree_in_bounds_2 in
    let g = c.well_formed in
    let x = c.missing-x.ensures in let y = c.missing-y.ensures in omega arith

pub overflow_add-a-2 : goal.overflow_add-a-2
overflow_add-a-2 c = let pr = c.requires in
    let v = pr.valid_curve in
    let l = v.knots.long in
    let k = v.knots.count in
    let s = v.short.knots in
    let q = pr.degree_in_bounds_2 in
    let g = c.well_formed in
    let x = c.missing-x.ensures in let y = c.missing-y.ensures in omega arith

pub overflow_mul-a : goal.overflow_mul-a
overflow_mul-a c = let pr = c.requires in
    let v = pr.valid_curve in
    let l = v.knots.long in
    let k = v.knots.count in
    let s = v.short.knots in
    let q = pr.degree_in_bounds_2 in
    let g = c.well_formed in
    let x = c.missing-x.ensures in let y = c.missing-y.ensures in omega (arith, g)

pub insert_ends-requires : goal.insert_ends-requires
insert_ends-requires c = let pr = c.requires in
    let v = pr.valid_curve in
    let l = v.knots.long in
    let k = v.knots.count in
    let s = v.short.knots in
    let q = pr.degree_in_bounds_2 in
    let g = c.well_formed in
    let x = c.missing-x.ensures in let y = c.missing-y.ensures in
    record {
      valid_curve = pr.valid_curve;
      hi_bound = (omega arith, omega arith);
    }

pub returns-in_err-insert_ends : goal.returns-in_err-insert_ends
returns-in_err-insert_ends c = let p = err_from_is_err_and c.from_residual.result c.from_residual.ensures.1 in
    let a = c.args in
    rw
    (p.1, p.2)
    (into-refused
    a.curve.degree a.curve.knots.now a.curve.points.now a.curve.rational a.curve.weights.now
    c.requires.valid_curve a.lo a.hi (length a.out_knots.now)
    (length a.out_points.now) (length a.out_weights.now) _ _ _ _ c.in_err-insert_ends.ensures.value)

pub kept-m-requires : goal.kept-m-requires
kept-m-requires c = let pr = c.requires in
    let v = pr.valid_curve in
    let l = v.knots.long in
    let k = v.knots.count in
    let s = v.short.knots in
    let q = pr.degree_in_bounds_2 in
    let g = c.well_formed in
    record {
      p_bound = omega arith;
      knots_len_bound = s;
      lo_bound = pr.lo_bound;
    }

pub cut-requires : goal.cut-requires
cut-requires c = let a = c.args in
    let pr = c.requires in
    let v = pr.valid_curve in
    let l = v.knots.long in
    let k = v.knots.count in
    let s = v.short.knots in
    let q = pr.degree_in_bounds_2 in
    let g = c.well_formed in
    let x = c.missing-x.ensures in
    let y = c.missing-y.ensures in
    let F = c.below-f.ensures in
    let M = c.kept-m.ensures in
    let w = c.work-1.given in
    let b =
    (kept-fits
    a.curve.degree (length a.curve.points.now / 3) a.curve.knots.now pr.valid_curve.knots a.lo a.hi pr.lo_bound
    (multiplicity-most a.curve.degree (length a.curve.points.now / 3) a.curve.knots.now pr.valid_curve.knots a.hi)) in
    let i = pr.degree_in_bounds in
    let j = pr.hi_in_bounds in
    record {
      m_bound = (omega arith, omega arith);
      p_in_bounds = omega arith;
      m_in_bounds = omega arith;
      m_in_bounds_2 = rw M pr.hi_in_bounds_2;
    }

pub returns : goal.returns
returns c = let b = c.missing-x in
    let d = c.missing-y in
    let a = c.args in
    let pr = c.requires in
    let v = pr.valid_curve in
    let l = v.knots.long in
    let k = v.knots.count in
    let s = v.short.knots in
    let q = pr.degree_in_bounds_2 in
    let g = c.well_formed in
    let x = b.ensures in
    let y = d.ensures in
    into-cut
    a.curve.degree a.curve.knots.now a.curve.points.now a.curve.rational a.curve.weights.now pr.valid_curve a.lo a.hi (length a.out_knots.now) (length a.out_points.now) (length a.out_weights.now)
    _ _ _
    ((length a.curve.points.now / 3 + (b.result + d.result)) * 4)
    a.work.now _ _ c.below-f.ensures
    c.kept-m.ensures
    (kept-fits
    a.curve.degree (length a.curve.points.now / 3) a.curve.knots.now pr.valid_curve.knots a.lo a.hi pr.lo_bound
    (multiplicity-most a.curve.degree (length a.curve.points.now / 3) a.curve.knots.now pr.valid_curve.knots a.hi))
    (omega arith) (omega arith) c.in_ok-insert_ends.ensures.value _
    c.in_ok-insert_ends.ensures.work_after _
    c.cut.ensures
