-- `basis::ders::basis_derivatives` meets its contract.
-- Assumes nothing.
use mathlib.Core.Path.{sym, ◌∙◌}
use native.Mathlib.Omega.{arith}
use lib.ListN.{length}
use Rattle.basis.proofs.Whole.{reached, answer-none, answer-some, cleared-long}
use Rattle.basis.proofs.ders.basis_derivatives.Goals as goal

pub returns-then-not-in_reach : goal.returns-then-not-in_reach
returns-then-not-in_reach c = let a = c.args in
    let m = length a.ders.now in
    c.clear.ensures ∙ answer-none a.p a.n a.knots.now a.span a.u m (sym c.in_reach.ensures ∙ c.if-not-in_reach.true)

pub small_derivatives-requires : goal.small_derivatives-requires
small_derivatives-requires c = let a = c.args in
    let m = length a.ders.now in
    let h = sym c.in_reach.ensures ∙ c.if-not-in_reach.false in
    let r = reached m a.p a.n a.knots.now a.span h in
    record {
      p_nonzero = r.degree;
      p_bound = omega arith;
      p_le_span = r.low;
      p_in_bounds = r.long;
      n_bound = r.orders;
      ders_len = cleared-long m _ c.clear.ensures r.room;
    }

pub returns-then-p-le7 : goal.returns-then-p-le7
returns-then-p-le7 c = let a = c.args in
    let m = length a.ders.now in
    let h = sym c.in_reach.ensures ∙ c.if-not-in_reach.false in
    answer-some
    a.p a.n a.knots.now a.span a.u m _ _ h c.clear.ensures c.small_derivatives.ensures

pub middle_derivatives-requires : goal.middle_derivatives-requires
middle_derivatives-requires c = let a = c.args in
    let m = length a.ders.now in
    let h = sym c.in_reach.ensures ∙ c.if-not-in_reach.false in
    let r = reached m a.p a.n a.knots.now a.span h in
    record {
      p_nonzero = r.degree;
      p_bound = omega arith;
      p_le_span = r.low;
      p_in_bounds = r.long;
      n_bound = r.orders;
      ders_len = cleared-long m _ c.clear.ensures r.room;
    }

pub returns-then-p-le15 : goal.returns-then-p-le15
returns-then-p-le15 c = let a = c.args in
    let m = length a.ders.now in
    let h = sym c.in_reach.ensures ∙ c.if-not-in_reach.false in
    answer-some
    a.p a.n a.knots.now a.span a.u m _ _ h c.clear.ensures
    c.middle_derivatives.ensures

pub large_derivatives-requires : goal.large_derivatives-requires
large_derivatives-requires c = let a = c.args in
    let m = length a.ders.now in
    let h = sym c.in_reach.ensures ∙ c.if-not-in_reach.false in
    let r = reached m a.p a.n a.knots.now a.span h in
    record {
      p_nonzero = r.degree;
      p_bound = r.high;
      p_le_span = r.low;
      p_in_bounds = r.long;
      n_bound = r.orders;
      ders_len = cleared-long m _ c.clear.ensures r.room;
    }

pub returns : goal.returns
returns c = let a = c.args in
    let m = length a.ders.now in
    let h = sym c.in_reach.ensures ∙ c.if-not-in_reach.false in
    answer-some
    a.p a.n a.knots.now a.span a.u m _ _ h c.clear.ensures
    c.large_derivatives.ensures
