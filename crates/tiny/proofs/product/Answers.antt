use mathlib.Core.Path.{sym, ◌∙◌}
use native.Mathlib.Omega.{arith}
use Rattle.tiny.proofs.Factors.{Serves, served, exact}
use Rattle.tiny.proofs.product.Goals as goal

pub overflow_mul-k : goal.overflow_mul-k
overflow_mul-k c = omega (arith, exact _ _ c.if-k-lt1024.true (let factor' : Serves c.args.x c.factor_of-f.result = served _ _ c.factor_of-f.ensures (omega arith) in factor').digits)

pub rounded-requires : goal.rounded-requires
rounded-requires c = (exact _ _ c.if-k-lt1024.true (let factor' : Serves c.args.x c.factor_of-f.result = served _ _ c.factor_of-f.ensures (omega arith) in factor').digits, ((let factor' : Serves c.args.x c.factor_of-f.result = served _ _ c.factor_of-f.ensures (omega arith) in factor').least, (let factor' : Serves c.args.x c.factor_of-f.result = served _ _ c.factor_of-f.ensures (omega arith) in factor').most))

pub returns-then-f-gt0 : goal.returns-then-f-gt0
returns-then-f-gt0 c = c.rounded.ensures ∙ sym ((let factor' : Serves c.args.x c.factor_of-f.result = served _ _ c.factor_of-f.ensures (omega arith) in factor').product _ c.if-k-lt1024.true)

pub returns : goal.returns
returns c = c.bits_of.ensures ∙ rw (c.double_of.ensures, c.double_of-2.ensures)
