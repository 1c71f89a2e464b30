-- By the test.
-- Assumes nothing.
use Prim.Native.Nat.{◌+◌}
use mathlib.Core.Path.{refl}
use native.Mathlib.Nat.{le-div_iff_mul-le, div-le_self}
use native.Mathlib.Omega.{arith}
use borrow.Author.Tests.{lt-ltb, le-ltb}
use Rattle.drawing.specs.Drawing.{parts_of}
use Rattle.drawing.proofs.parts_of.Goals as goal

pub returns-then-count-lt1024 : goal.returns-then-count-lt1024
unfolding parts_of
returns-then-count-lt1024 c = let n = c.args.count in
    let t = c.if-count-lt1024.true in
    record {
      value = rw (lt-ltb n 1024 t) refl;
      result_nonzero = (le-div_iff_mul-le {k = n + 1} {x = 1} {y = 1024} (omega arith)).1 (omega arith);
      upper_bound = div-le_self 1024 (n + 1);
    }

pub returns : goal.returns
unfolding parts_of
returns c = let n = c.args.count in
    record {
      value = rw (le-ltb n 1024 c.if-count-lt1024.false) refl;
      result_nonzero = omega arith;
      upper_bound = omega arith;
    }
