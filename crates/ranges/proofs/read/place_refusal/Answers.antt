use Rattle.knots.specs.Curve.{count_of}
use Rattle.std.proofs.lemmas.Result.{err_from_is_err_and}
use mathlib.Core.Path.{sym}
use native.Mathlib.Omega.{arith}
use borrow.Author.Tests.{le-leb, lt-leb, lt-ltb, le-ltb}
use Rattle.knots.proofs.Refusals.{skip, refused-first}
use Rattle.ranges.specs.Read.{place_refusal}
use Rattle.ranges.proofs.read.place_refusal.Goals as goal

pub returns-then-s-curve : goal.returns-then-s-curve
unfolding place_refusal
returns-then-s-curve c = simp (lt-leb c.args.curve.degree c.args.s c.if-s-curve.true) c.range_refusal.ensures

pub returns-then-s-count : goal.returns-then-s-count
unfolding place_refusal
returns-then-s-count c = simp (
  le-leb c.args.curve.degree c.args.s c.if-s-curve.false,
  le-ltb c.args.s (count_of c.args.curve.points.now) c.if-s-count.true,
) c.range_refusal-then-s-count.ensures

pub read_refusal-requires : goal.read_refusal-requires
read_refusal-requires c = let a = c.requires in
    let f = c.if-s-curve.false in
    let g = c.if-s-count.false in
    record {
      degree_le_s = omega arith;
      degree_in_bounds = omega arith;
      s_in_bounds = omega arith;
      points_len_bound = a.points_len_bound;
      s_in_bounds_2 = λ e. let w = a.weights_len e in omega arith;
    }

pub returns-in_err-read_refusal : goal.returns-in_err-read_refusal
unfolding place_refusal
returns-in_err-read_refusal c = let p = err_from_is_err_and c.from_residual.result c.from_residual.ensures.1 in
    rw (p.1, p.2) (simp (
      le-leb c.args.curve.degree c.args.s c.if-s-curve.false,
      lt-ltb c.args.s (count_of c.args.curve.points.now) c.if-s-count.false,
    ) (refused-first _ _ c.in_err-read_refusal.ensures))

pub returns : goal.returns
unfolding place_refusal
returns c = simp (
  le-leb c.args.curve.degree c.args.s c.if-s-curve.false,
  lt-ltb c.args.s (count_of c.args.curve.points.now) c.if-s-count.false,
  skip _ c.in_ok-read_refusal.ensures,
  sym c.taken_span-taken.ensures,
) c.range_refusal-2.ensures
