-- How many doubles a field has: its payload is a whole number of them.
-- Assumes nothing.
use Rattle.std.specs.Prelude.{Some, None}
use mathlib.Core.Path.{◌≡◌, sym, ◌∙◌}
use native.Mathlib.Omega.{arith}
use Prim.Native.Nat.{◌%◌}
use borrow.Author.Tests.{eq-eqb, ne_eqb}
use lib.ListN.{drop}
use Rattle.record.specs.Reading.{field_of, run_of}
use Rattle.record.proofs.Tests.{is_below}
use Rattle.record.proofs.field.run_at.Goals as goal

pub returns-in_err-n : goal.returns-in_err-n
unfolding run_of
returns-in_err-n c = let a = c.args in
    let e : field_of (drop a.i a.s.now) a.tag ≡ None = sym c.field_at.ensures.value ∙ c.in_err-n.was in
    rw c.from_residual.ensures (record {
      value = rw e;
      below = tt;
    })

pub returns-then-n-ne0 : goal.returns-then-n-ne0
unfolding run_of
returns-then-n-ne0 c = let a = c.args in
    let n = c.in_ok-n.n in
    let e : field_of (drop a.i a.s.now) a.tag ≡ Some c.in_ok-n.n = sym c.field_at.ensures.value ∙ c.in_ok-n.was in
    record {
      value = rw (e, ne_eqb (n % 8) 0 (λ z. omega arith));
      below = tt;
    }

pub returns : goal.returns
unfolding run_of
returns c = let a = c.args in
    let n = c.in_ok-n.n in
    let e : field_of (drop a.i a.s.now) a.tag ≡ Some c.in_ok-n.n = sym c.field_at.ensures.value ∙ c.in_ok-n.was in
    let small = is_below 65536 _ _ c.in_ok-n.was c.field_at.ensures.below in
    record {
      value = rw (e, eq-eqb (n % 8) 0 (omega arith));
      below = omega arith;
    }
