-- The sum is not formed, so that it cannot go over.
-- Assumes nothing.
use Prim.Native.Nat.{◌+◌}
use mathlib.Core.Path.{sym}
use native.Mathlib.Omega.{arith}
use borrow.Author.Tests.{lt-leb}
use Rattle.decimals.proofs.Storing.{leb-shift}
use Rattle.decimals.proofs.pieces.has_room.Goals as goal

pub returns-then-n-k : goal.returns-then-n-k
returns-then-n-k c = let h = c.if-n-k.true in
    sym (lt-leb (c.args.at + c.args.k) c.args.n (omega arith))

pub returns : goal.returns
returns c = leb-shift _ _ _ c.if-n-k.false
