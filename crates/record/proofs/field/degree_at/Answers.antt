-- The degree, of a field whose payload has two bytes.
-- Assumes nothing.
use Rattle.std.specs.Prelude.{Some, None}
use mathlib.Core.Path.{◌≡◌, sym, ◌∙◌, ap}
use native.Mathlib.Omega.{arith}
use borrow.Author.Tests.{eq-eqb, ne_eqb}
use Rattle.record.specs.Reading.{field_of, degree_of}
use Rattle.record.proofs.Fields.{field_room}
use Rattle.record.proofs.field.degree_at.Goals as goal

pub returns-in_err-n : goal.returns-in_err-n
unfolding degree_of
returns-in_err-n c = let a = c.args in
    let e : field_of a.s.now 1 ≡ None = sym c.field_at.ensures.value ∙ c.in_err-n.was in
    rw (c.from_residual.ensures, e)

pub returns-then-n-ne2 : goal.returns-then-n-ne2
unfolding degree_of
returns-then-n-ne2 c = let a = c.args in
    let n = c.in_ok-n.n in
    let e : field_of a.s.now 1 ≡ Some c.in_ok-n.n = sym c.field_at.ensures.value ∙ c.in_ok-n.was in
    rw (e, ne_eqb n 2 (λ z. omega arith))

pub u16_at-requires : goal.u16_at-requires
u16_at-requires c = let a = c.args in
    let e : field_of a.s.now 1 ≡ Some c.in_ok-n.n = sym c.field_at.ensures.value ∙ c.in_ok-n.was in
    omega (arith, field_room a.s.now 1 _ e)

pub returns : goal.returns
unfolding degree_of
returns c = let a = c.args in
    let n = c.in_ok-n.n in
    let e : field_of a.s.now 1 ≡ Some c.in_ok-n.n = sym c.field_at.ensures.value
    ∙ c.in_ok-n.was in
    rw (e, eq-eqb n 2 (omega arith)) (ap Some (c.size.ensures ∙ c.u16_at.ensures.value))
