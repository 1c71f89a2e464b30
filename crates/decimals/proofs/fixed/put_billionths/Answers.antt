-- Sign, digits, point and nine digits, one behind the other.
-- Assumes nothing.
use mathlib.Core.Path.{◌∙◌}
use native.Mathlib.Nat.{div-one}
use Prim.Native.Nat.{◌≤◌}
use Rattle.decimals.specs.Figures.{number}
use native.Mathlib.Omega.{arith}
use lib.ListN.{length-set}
use Rattle.decimals.proofs.Decimals.{Counted, counted-few, counted-any, counted-width, ahead_small, billionths-stored}
use Rattle.decimals.proofs.fixed.put_billionths.Goals as goal

pub put_figures-requires : goal.put_figures-requires
put_figures-requires c = let q = c.requires in
    let few = (let ahead-few' : c.ahead-w.result ≤ 309 = let few = counted-few (let counted' : Counted (number c.args.run.now) c.count-n.result = let e = c.count-n.ensures in record { under = e.run_bound; «from» = e.result_bound } in counted') c.requires.run_bound in
    rw c.ahead-w.ensures (ahead_small _ few) in ahead-few') in
    let m = c.put_minus-start.ensures.upper_bound in
    let room = q.at_in_bounds in
    let k = c.put_minus-start.auto.out in
    record {
      figures = q.figures;
      k_in_bounds = omega arith;
      k_in_bounds_2 = rw q.run_len (omega arith);
    }

pub overflow_add-point : goal.overflow_add-point
overflow_add-point c = let few = (let ahead-few' : c.ahead-w.result ≤ 309 = let few = counted-few (let counted' : Counted (number c.args.run.now) c.count-n.result = let e = c.count-n.ensures in record { under = e.run_bound; «from» = e.result_bound } in counted') c.requires.run_bound in
    rw c.ahead-w.ensures (ahead_small _ few) in ahead-few') in
    let m = c.put_minus-start.ensures.upper_bound in
    let room = c.requires.at_in_bounds in
    let k = c.put_minus-start.auto.out in
    omega arith

pub bounds-out-point : goal.bounds-out-point
bounds-out-point c = let few = (let ahead-few' : c.ahead-w.result ≤ 309 = let few = counted-few (let counted' : Counted (number c.args.run.now) c.count-n.result = let e = c.count-n.ensures in record { under = e.run_bound; «from» = e.result_bound } in counted') c.requires.run_bound in
    rw c.ahead-w.ensures (ahead_small _ few) in ahead-few') in
    let m = c.put_minus-start.ensures.upper_bound in
    let room = c.requires.at_in_bounds in
    let k = c.put_minus-start.auto.out in
    let k2 = c.put_figures.auto.out in
    omega arith

pub overflow_add-point-2 : goal.overflow_add-point-2
overflow_add-point-2 c = let few = (let ahead-few' : c.ahead-w.result ≤ 309 = let few = counted-few (let counted' : Counted (number c.args.run.now) c.count-n.result = let e = c.count-n.ensures in record { under = e.run_bound; «from» = e.result_bound } in counted') c.requires.run_bound in
    rw c.ahead-w.ensures (ahead_small _ few) in ahead-few') in
    let m = c.put_minus-start.ensures.upper_bound in
    let room = c.requires.at_in_bounds in
    let k = c.put_minus-start.auto.out in
    omega arith

pub put_figures-requires-2 : goal.put_figures-requires-2
put_figures-requires-2 c = let q = c.requires in
    let few = (let ahead-few' : c.ahead-w.result ≤ 309 = let few = counted-few (let counted' : Counted (number c.args.run.now) c.count-n.result = let e = c.count-n.ensures in record { under = e.run_bound; «from» = e.result_bound } in counted') c.requires.run_bound in
    rw c.ahead-w.ensures (ahead_small _ few) in ahead-few') in
    let m = c.put_minus-start.ensures.upper_bound in
    let room = q.at_in_bounds in
    let k = c.put_minus-start.auto.out in
    let k2 = c.put_figures.auto.out in
    record {
      figures = q.figures;
      k_in_bounds = rw length-set (omega arith);
      k_in_bounds_2 = rw q.run_len (omega arith);
    }

pub overflow_add-result : goal.overflow_add-result
overflow_add-result c = let few = (let ahead-few' : c.ahead-w.result ≤ 309 = let few = counted-few (let counted' : Counted (number c.args.run.now) c.count-n.result = let e = c.count-n.ensures in record { under = e.run_bound; «from» = e.result_bound } in counted') c.requires.run_bound in
    rw c.ahead-w.ensures (ahead_small _ few) in ahead-few') in
    let m = c.put_minus-start.ensures.upper_bound in
    let room = c.requires.at_in_bounds in
    let k = c.put_minus-start.auto.out in
    omega arith

pub shape_of-out : goal.shape_of-out
shape_of-out c = c.put_figures-2.auto.out
    ∙ simp
    length-set
    (c.put_figures.auto.out ∙ c.put_minus-start.auto.out)

pub returns : goal.returns
returns c = let a = c.args in
    let any = counted-any (let counted' : Counted (number c.args.run.now) c.count-n.result = let e = c.count-n.ensures in record { under = e.run_bound; «from» = e.result_bound } in counted') in
    let few =
    counted-few
    (let counted' : Counted (number c.args.run.now) c.count-n.result = let e = c.count-n.ensures in record { under = e.run_bound; «from» = e.result_bound } in counted')
    c.requires.run_bound in
    let wide = counted-width _ _ (let counted' : Counted (number c.args.run.now) c.count-n.result = let e = c.count-n.ensures in record { under = e.run_bound; «from» = e.result_bound } in counted') few in
    let m = c.put_minus-start.ensures in
    let r =
    billionths-stored
    a.out.now a.at a.negative (number a.run.now) (rw (← any) m.out_after) (rw (← any) m.value) m.upper_bound
    (c.ahead-w.ensures ∙ wide) (let ahead-few' : c.ahead-w.result ≤ 309 = let few = counted-few (let counted' : Counted (number c.args.run.now) c.count-n.result = let e = c.count-n.ensures in record { under = e.run_bound; «from» = e.result_bound } in counted') c.requires.run_bound in
    rw c.ahead-w.ensures (ahead_small _ few) in ahead-few')
    c.put_figures.ensures (c.put_figures-2.ensures ∙ rw div-one) in
    record {
      out_after = r.0;
      value = r.1;
      upper_bound = r.2;
    }
