use mathlib.Core.List.{[]}
use Rattle.evaluate.specs.Numbers.{onto}
use Rattle.exports.proofs.Put.{leaves-short}
use Rattle.exports.proofs.Vectors.{leaves-vectors}
use native.Mathlib.Omega.{arith}
use Rattle.exports.proofs.points.put_vectors.Goals as goal

pub returns-then-out-lt6 : goal.returns-then-out-lt6
returns-then-out-lt6 c = let a = c.args in leaves-short (onto a.a (onto a.b [])) a.out.now _ c.clear.ensures (omega arith)

pub returns : goal.returns
returns c = let a = c.args in
    leaves-vectors
    a.a a.b a.out.now _ _ _ c.clear.ensures (omega arith)
    c.store_vector.ensures c.store_vector-2.ensures
