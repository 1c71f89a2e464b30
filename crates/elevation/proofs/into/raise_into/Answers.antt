-- `elevation::into::raise_into` meets its contract.
-- Assumes nothing.
use Rattle.std.proofs.lemmas.Result.{err_from_is_err_and}
use Prim.Native.Nat.{◌+◌, ◌*◌}
use native.Mathlib.Omega.{arith}
use mathlib.Core.Path.{refl}
use lib.ListN.{length}
use Rattle.elevation.proofs.RaisedInto.{in_reach, sizes, lay-none, extract-ready, raise-ready, into-stop, into-end}
use borrow.Author.Rules.{rules}
use Rattle.elevation.proofs.into.raise_into.Goals as goal

pub break_count-breaks-requires : goal.break_count-breaks-requires
break_count-breaks-requires c = let a = c.args in
    in_reach
    a.curve.degree a.curve.knots.now a.curve.points.now a.curve.rational a.curve.weights.now a.raised (length a.out_knots.now) (length a.out_points.now) (length a.out_weights.now)
    (length a.work.now) c.requires.work_value

pub overflow_add-m : goal.overflow_add-m
overflow_add-m c = let a = c.args in
    let r =
    in_reach
    a.curve.degree a.curve.knots.now a.curve.points.now a.curve.rational a.curve.weights.now a.raised (length a.out_knots.now) (length a.out_points.now) (length a.out_weights.now)
    (length a.work.now) c.requires.work_value in
    let x = r.0 in search rules

pub overflow_add-m-2 : goal.overflow_add-m-2
overflow_add-m-2 c = let a = c.args in
    let q =
    sizes
    a.curve.degree a.curve.knots.now a.curve.points.now a.curve.rational a.curve.weights.now a.raised (length a.out_knots.now) (length a.out_points.now) (length a.out_weights.now)
    (length a.work.now) c.requires.work_value c.break_count-breaks.result _
    (record { breaks = c.break_count-breaks.ensures; full = refl }) in
    let x = q.0 in let y = q.1 in let z = q.2 in search rules

pub overflow_mul-m : goal.overflow_mul-m
overflow_mul-m c = let a = c.args in
    let q =
    sizes
    a.curve.degree a.curve.knots.now a.curve.points.now a.curve.rational a.curve.weights.now a.raised (length a.out_knots.now) (length a.out_points.now) (length a.out_weights.now)
    (length a.work.now) c.requires.work_value c.break_count-breaks.result _
    (record { breaks = c.break_count-breaks.ensures; full = refl }) in
    let x = q.0 in let y = q.1 in let z = q.2 in search rules

pub overflow_mul-a : goal.overflow_mul-a
overflow_mul-a c = let a = c.args in
    let q =
    sizes
    a.curve.degree a.curve.knots.now a.curve.points.now a.curve.rational a.curve.weights.now a.raised (length a.out_knots.now) (length a.out_points.now) (length a.out_weights.now)
    (length a.work.now) c.requires.work_value c.break_count-breaks.result _
    (record { breaks = c.break_count-breaks.ensures; full = refl }) in
    let x = q.0 in let y = q.1 in let z = q.2 in search rules

pub returns-in_err-lay_curve : goal.returns-in_err-lay_curve
returns-in_err-lay_curve c = let a = c.args in
    let no =
    lay-none
    a.curve.degree a.curve.knots.now a.curve.points.now a.curve.rational a.curve.weights.now a.raised (length a.out_knots.now) (length a.out_points.now) (length a.out_weights.now)
    (length a.work.now) c.requires.work_value
    c.break_count-breaks.result _
    (record { breaks = c.break_count-breaks.ensures; full = refl })
    ((a.curve.degree + 1) * (c.break_count-breaks.result + 1)) refl a.work.now refl _
    c.in_err-lay_curve.ensures.value in
    cc

pub extract-requires : goal.extract-requires
extract-requires c = let all = let a = c.args in
    extract-ready
    a.curve.degree a.curve.knots.now a.curve.points.now a.curve.rational a.curve.weights.now a.raised (length a.out_knots.now) (length a.out_points.now) (length a.out_weights.now)
    (length a.work.now) c.requires.work_value
    c.break_count-breaks.result _
    (record { breaks = c.break_count-breaks.ensures; full = refl })
    ((a.curve.degree + 1) * (c.break_count-breaks.result + 1)) refl a.work.now refl _
    c.in_ok-lay_curve.ensures.work_after
    _ (omega arith) in
    record { p_lt_n = all.0; valid_knots = all.1.0; knots_bound = all.1.1.0; p_in_bounds = all.1.1.1 }

pub returns-in_err-extract : goal.returns-in_err-extract
returns-in_err-extract c = let p = err_from_is_err_and c.from_residual-in_err-extract.result c.from_residual-in_err-extract.ensures.1 in
    let a = c.args in
    rw
    (p.1, p.2)
    (into-stop
    a.curve.degree a.curve.knots.now a.curve.points.now a.curve.rational a.curve.weights.now a.raised (length a.out_knots.now) (length a.out_points.now) (length a.out_weights.now)
    (length a.work.now) c.requires.work_value
    c.break_count-breaks.result _
    (record { breaks = c.break_count-breaks.ensures; full = refl })
    ((a.curve.degree + 1) * (c.break_count-breaks.result + 1)) refl a.work.now refl _
    c.in_ok-lay_curve.ensures.work_after _ _ c.in_err-extract.ensures _ refl _ _ _)

pub raise_extracted-requires : goal.raise_extracted-requires
raise_extracted-requires c = let all = let a = c.args in
    let q = c.requires in
    raise-ready
    a.curve.degree a.curve.knots.now a.curve.points.now a.curve.rational a.curve.weights.now a.raised (length a.out_knots.now) (length a.out_points.now) (length a.out_weights.now)
    (length a.work.now) q.work_value
    c.break_count-breaks.result _ (record { breaks = c.break_count-breaks.ensures; full = refl })
    ((a.curve.degree + 1) * (c.break_count-breaks.result + 1))
    refl a.work.now refl _ c.in_ok-lay_curve.ensures.work_after q.fact _ (omega arith) in
    record { p_lt_n = all.0; m_value = all.1.0; e_in_bounds = all.1.1.0; knots_in_bounds = all.1.1.1.0; knots_in_bounds_2 = all.1.1.1.1 }

pub returns : goal.returns
returns c = let a = c.args in
    let q = c.requires in
    into-end
    a.curve.degree a.curve.knots.now a.curve.points.now a.curve.rational a.curve.weights.now a.raised (length a.out_knots.now) (length a.out_points.now) (length a.out_weights.now)
    (length a.work.now) q.work_value
    c.break_count-breaks.result
    _
    (record { breaks = c.break_count-breaks.ensures; full = refl })
    ((a.curve.degree + 1) * (c.break_count-breaks.result + 1))
    refl a.work.now refl _
    c.in_ok-lay_curve.ensures.work_after
    _ _ c.in_ok-extract.ensures
    refl a.out_knots.now a.out_points.now a.out_weights.now _ _ _ _
    c.raise_extracted.ensures q.out_knots_value.0 q.out_knots_value.1 q.out_knots_value.2
