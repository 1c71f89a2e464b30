-- A field at a place: each return states the test that led there.
-- Assumes nothing.
use Rattle.std.specs.Prelude.{Some}
use mathlib.Core.Path.{◌≡◌, ◌∙◌, ap}
use native.Mathlib.Omega.{arith}
use Prim.Native.Nat.{◌+◌, ◌-◌}
use borrow.Author.Tests.{lt-ltb, le-ltb, eq-eqb, ne_eqb}
use lib.ListN.{length, drop, get_or}
use Rattle.record.specs.Reading.{number}
use Rattle.record.proofs.Fields.{field-tests}
use Rattle.record.proofs.field.field_at.Goals as goal

pub returns-then-s-i : goal.returns-then-s-i
returns-then-s-i c = let a = c.args in
    let left = length a.s.now - a.i in
    record {
      value = rw (field-tests a.s.now a.i a.tag, lt-ltb left 3 (omega arith));
      below = tt;
    }

pub returns-then-left-lt3 : goal.returns-then-left-lt3
returns-then-left-lt3 c = let a = c.args in
    let left = length a.s.now - a.i in
    record {
      value = rw (field-tests a.s.now a.i a.tag, lt-ltb left 3 (omega arith));
      below = tt;
    }

pub returns-then-s-i-2 : goal.returns-then-s-i-2
returns-then-s-i-2 c = let a = c.args in
    let left = length a.s.now - a.i in
    record {
      value = rw (field-tests a.s.now a.i a.tag, le-ltb left 3 (omega arith), ne_eqb (get_or a.s.now a.i 0) a.tag (λ z. omega arith));
      below = tt;
    }

pub returns-then-left-n : goal.returns-then-left-n
returns-then-left-n c = let a = c.args in
    let left = length a.s.now - a.i in
    let n : c.size-n.result ≡ number 2 (drop (a.i + 1) a.s.now) = c.size-n.ensures ∙ c.u16_at.ensures.value in
    record {
      value = rw (
        field-tests a.s.now a.i a.tag,
        le-ltb left 3 (omega arith),
        eq-eqb (get_or a.s.now a.i 0) a.tag (omega arith),
        lt-ltb (left - 3) (number 2 (drop (a.i + 1) a.s.now)) (omega arith),
      );
      below = tt;
    }

pub returns : goal.returns
returns c = let a = c.args in
    let left = length a.s.now - a.i in
    let n : c.size-n.result ≡ number 2 (drop (a.i + 1) a.s.now) = c.size-n.ensures ∙ c.u16_at.ensures.value in
    record {
      value = rw (
        field-tests a.s.now a.i a.tag,
        le-ltb left 3 (omega arith),
        eq-eqb (get_or a.s.now a.i 0) a.tag (omega arith),
        le-ltb (left - 3) (number 2 (drop (a.i + 1) a.s.now)) (omega arith),
      )
          (ap Some n);
      below = omega arith;
    }
