use mathlib.Core.List.{[]}
use Rattle.evaluate.specs.Numbers.{onto}
use Rattle.exports.proofs.Put.{leaves-short}
use Rattle.exports.proofs.Vectors.{leaves-three-vectors}
use native.Mathlib.Omega.{arith}
use Rattle.exports.proofs.points.put_three_vectors.Goals as goal

pub returns-then-out-lt9 : goal.returns-then-out-lt9
returns-then-out-lt9 c = let a = c.args in
    leaves-short (onto a.a (onto a.b (onto a.c []))) a.out.now _ c.clear.ensures (omega arith)

pub returns : goal.returns
returns c = let a = c.args in
    leaves-three-vectors
    a.a a.b a.c a.out.now _ _ _ _ c.clear.ensures
    (omega arith) c.store_vector.ensures c.store_vector-2.ensures
    c.store_vector-3.ensures
