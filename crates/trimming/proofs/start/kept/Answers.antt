use native.Mathlib.Omega.{arith}
use Rattle.trimming.specs.Trim.{kept_of}
use Rattle.trimming.proofs.Ranges.{below-long}
use borrow.Author.Rules.{rules}
use Rattle.trimming.proofs.start.kept.Goals as goal

pub overflow_add-p : goal.overflow_add-p
overflow_add-p c = let p = c.requires.p_bound in search rules

pub overflow_add-result : goal.overflow_add-result
overflow_add-result c = let a = c.args in
    let pr = c.requires in
    let p = pr.p_bound in let q = pr.knots_len_bound in let b = below-long a.knots.now a.hi in let e = c.below.ensures in let f = c.missing-x.ensures in omega arith

pub overflow_sub-result : goal.overflow_sub-result
overflow_sub-result c = let p = c.requires.lo_bound in let e = c.below.ensures in let f = c.below-f.ensures in omega arith

pub returns : goal.returns
unfolding kept_of
returns c = let e = c.below.ensures in let f = c.below-f.ensures in let g = c.missing-x.ensures in omega arith
