-- `knots::limits::is_sum` meets its contract: a number that the differences show to be too small is no such sum, and of any other the last difference decides.
-- Assumes nothing.
use Prim.Native.Nat.{◌+◌}
use mathlib.Core.Path.{sym}
use native.Mathlib.Omega.{arith}
use borrow.Author.Tests.{ne_eqb}
use Rattle.knots.proofs.Products.{test_sum}
use Rattle.knots.proofs.limits.is_sum.Goals as goal

pub returns-then-n-a : goal.returns-then-n-a
returns-then-n-a c = sym (ne_eqb c.args.n (c.args.a + c.args.b + 1) (λ e. omega arith))

pub returns-then-n-a-2 : goal.returns-then-n-a-2
returns-then-n-a-2 c = sym (ne_eqb c.args.n (c.args.a + c.args.b + 1) (λ e. omega arith))

pub returns : goal.returns
returns c = test_sum c.args.n c.args.a c.args.b (omega arith)
