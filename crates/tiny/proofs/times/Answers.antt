use Prim.Native.Nat.{◌^◌}
use native.Mathlib.Omega.{arith}
use borrow.Author.Tests.{lt-ltb, le-ltb}
use Rattle.tiny.specs.Factors.{times_of}
use Rattle.tiny.proofs.Factors.{exact}
use Rattle.tiny.proofs.times.Goals as goal

pub returns-then-k-ge1024 : goal.returns-then-k-ge1024
unfolding times_of
returns-then-k-ge1024 c = let a = c.args in rw (le-ltb a.k 1024 (omega arith))

pub returns-then-f-ge9007199254740992 : goal.returns-then-f-ge9007199254740992
unfolding times_of
returns-then-f-ge9007199254740992 c = let a = c.args in rw (lt-ltb a.k 1024 (omega arith), le-ltb a.f.m (2 ^ 53) (omega arith))

pub returns-then-f-lt11 : goal.returns-then-f-lt11
unfolding times_of
returns-then-f-lt11 c = let a = c.args in rw (lt-ltb a.k 1024 (omega arith), lt-ltb a.f.m (2 ^ 53) (omega arith), le-ltb 10 a.f.shift (omega arith))

pub returns-then-f-ge64 : goal.returns-then-f-ge64
unfolding times_of
returns-then-f-ge64 c = let a = c.args in rw (lt-ltb a.k 1024 (omega arith), lt-ltb a.f.m (2 ^ 53) (omega arith), lt-ltb 10 a.f.shift (omega arith), le-ltb a.f.shift 64 (omega arith))

pub overflow_mul-k : goal.overflow_mul-k
overflow_mul-k c = let a = c.args in omega (arith, exact a.k a.f.m (omega arith) (omega arith))

pub rounded-requires : goal.rounded-requires
rounded-requires c = let a = c.args in (exact a.k a.f.m (omega arith) (omega arith), (omega arith, omega arith))

pub returns : goal.returns
unfolding times_of
returns c = let a = c.args in rw (c.rounded.ensures, lt-ltb a.k 1024 (omega arith), lt-ltb a.f.m (2 ^ 53) (omega arith), lt-ltb 10 a.f.shift (omega arith), lt-ltb a.f.shift 64 (omega arith))
