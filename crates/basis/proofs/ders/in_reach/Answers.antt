-- `basis::ders::in_reach` meets its contract.
-- Assumes nothing.
use Prim.Native.Nat.{◌+◌}
use native.Mathlib.Omega.{arith}
use lib.ListN.{length}
use borrow.Author.Tests.{lt-ltb, le-ltb, lt-leb, le-leb}
use Rattle.basis.specs.Ders.{in_reach}
use Rattle.basis.proofs.ders.in_reach.Goals as goal

pub returns-then-p-eq0 : goal.returns-then-p-eq0
unfolding in_reach
returns-then-p-eq0 c = let a = c.args in
    simp (le-ltb 0 a.p (omega arith))

pub returns-then-p-gt64 : goal.returns-then-p-gt64
unfolding in_reach
returns-then-p-gt64 c = let a = c.args in
    simp (lt-ltb 0 a.p (omega arith), lt-leb a.p 64 (omega arith))

pub returns-then-n-gt2 : goal.returns-then-n-gt2
unfolding in_reach
returns-then-n-gt2 c = let a = c.args in
    simp (lt-ltb 0 a.p (omega arith), le-leb a.p 64 (omega arith), lt-leb a.n 2 (omega arith))

pub returns-then-span-p : goal.returns-then-span-p
unfolding in_reach
returns-then-span-p c = let a = c.args in
    simp (lt-ltb 0 a.p (omega arith), le-leb a.p 64 (omega arith), le-leb a.n 2 (omega arith), lt-leb a.p a.span (omega arith))

pub returns-then-knots-span : goal.returns-then-knots-span
unfolding in_reach
returns-then-knots-span c = let a = c.args in
    simp (
      lt-ltb 0 a.p (omega arith),
      le-leb a.p 64 (omega arith),
      le-leb a.n 2 (omega arith),
      le-leb a.p a.span (omega arith),
      le-ltb (a.span + a.p) (length a.knots.now) (omega arith),
    )

pub returns-then-knots-span-2 : goal.returns-then-knots-span-2
unfolding in_reach
returns-then-knots-span-2 c = let a = c.args in
    simp (
      lt-ltb 0 a.p (omega arith),
      le-leb a.p 64 (omega arith),
      le-leb a.n 2 (omega arith),
      le-leb a.p a.span (omega arith),
      le-ltb (a.span + a.p) (length a.knots.now) (omega arith),
    )

pub returns : goal.returns
unfolding in_reach
returns c = let a = c.args in
    simp (
      lt-ltb 0 a.p (omega arith),
      le-leb a.p 64 (omega arith),
      le-leb a.n 2 (omega arith),
      le-leb a.p a.span (omega arith),
      lt-ltb (a.span + a.p) (length a.knots.now) (omega arith),
    )
