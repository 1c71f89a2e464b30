-- The layout, field by field, and that it is the format's.
-- Assumes nothing.
use Rattle.std.specs.Prelude.{Some, None}
use mathlib.Core.Path.{◌≡◌, sym, ◌∙◌}
use native.Mathlib.Omega.{arith}
use Prim.Native.Nat.{◌+◌, ◌*◌}
use borrow.Author.Tests.{lt-ltb, le-ltb}
use lib.ListN.{length, drop}
use Rattle.record.specs.Reading.{degree_of, run_of, table_of}
use Rattle.record.proofs.Tests.{is_below}
use Rattle.record.proofs.Tables.{means}
use Rattle.record.proofs.read.read_record.Goals as goal

pub returns-then-s-gt65536 : goal.returns-then-s-gt65536
unfolding table_of
returns-then-s-gt65536 c = let a = c.args in
    let s = a.s.now in
    let m = means s (λ i. (c.type_inv.s i).fits) in
    record { means = m; answer = c.malformed.ensures ∙ rw (lt-ltb _ _ c.if-s-gt65536.true) }

pub returns-in_default : goal.returns-in_default
unfolding table_of
returns-in_default c = let a = c.args in
    let s = a.s.now in
    let m = means s (λ i. (c.type_inv.s i).fits) in
    let d : degree_of s ≡ None = sym c.degree_at.ensures ∙ c.in_default.is in
    record { means = m; answer = c.malformed-in_default.ensures ∙ rw (le-ltb 65536 (length s) c.if-s-gt65536.false, d) }

pub returns-in_default-run_at : goal.returns-in_default-run_at
unfolding table_of
returns-in_default-run_at c = let a = c.args in
    let s = a.s.now in
    let m = means s (λ i. (c.type_inv.s i).fits) in
    let d : degree_of s ≡ Some c.in-Some.degree = sym c.degree_at.ensures
    ∙ c.in-Some.is in
    let k : run_of (drop 5 s) 2 ≡ None = sym c.run_at.ensures.value ∙ c.in_default-run_at.is in
    record { means = m; answer = c.malformed-in_default-run_at.ensures ∙ rw (le-ltb 65536 (length s) c.if-s-gt65536.false, d, k) }

pub overflow_mul-knots : goal.overflow_mul-knots
overflow_mul-knots c = let small = is_below 8192 _ _ c.in-Some-run_at.is c.run_at.ensures.below in omega arith

pub overflow_add-knots : goal.overflow_add-knots
overflow_add-knots c = let small = is_below 8192 _ _ c.in-Some-run_at.is c.run_at.ensures.below in omega arith

pub returns-in_default-run_at-2 : goal.returns-in_default-run_at-2
unfolding table_of
returns-in_default-run_at-2 c = let a = c.args in
    let s = a.s.now in
    let m = means s (λ i. (c.type_inv.s i).fits) in
    let d : degree_of s ≡ Some c.in-Some.degree = sym
    c.degree_at.ensures
    ∙ c.in-Some.is in
    let k : run_of (drop 5 s) 2 ≡ Some c.in-Some-run_at.knots = sym c.run_at.ensures.value
    ∙ c.in-Some-run_at.is in
    let n : run_of (drop (8 + 8 * c.in-Some-run_at.knots) s) 3 ≡ None = sym c.run_at-2.ensures.value ∙ c.in_default-run_at-2.is in
    record {
      means =
          m;
      answer = c.malformed-in_default-run_at-2.ensures ∙ rw (le-ltb 65536 (length s) c.if-s-gt65536.false, d, k, n);
    }

pub end_at-requires-clause-knots_bound : goal.end_at-requires-clause-knots_bound
end_at-requires-clause-knots_bound c = is_below 8192 _ _ c.in-Some-run_at.is c.run_at.ensures.below

pub end_at-requires-clause-points_bound : goal.end_at-requires-clause-points_bound
end_at-requires-clause-points_bound c = is_below 8192 _ _ c.in-Some-run_at-2.is c.run_at-2.ensures.below

pub returns : goal.returns
unfolding table_of
returns c = let a = c.args in
    let s = a.s.now in
    let m = means s (λ i. (c.type_inv.s i).fits) in
    let d : degree_of s ≡ Some c.in-Some.degree = sym
    c.degree_at.ensures
    ∙ c.in-Some.is in
    let k : run_of (drop 5 s) 2 ≡ Some c.in-Some-run_at.knots = sym
    c.run_at.ensures.value
    ∙ c.in-Some-run_at.is in
    let n : run_of (drop (8 + 8 * c.in-Some-run_at.knots) s) 3 ≡ Some c.in-Some-run_at-2.points = sym
    c.run_at-2.ensures.value
    ∙ c.in-Some-run_at-2.is in
    record {
      means =
          m;
      answer = rw (le-ltb 65536 (length s) c.if-s-gt65536.false, d, k, n) c.end_at.ensures;
    }
