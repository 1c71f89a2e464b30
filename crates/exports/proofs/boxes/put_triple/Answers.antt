-- `exports::boxes::put_triple` meets its contract.
-- Assumes nothing.
use native.Mathlib.Omega.{arith}
use Rattle.bounds.specs.Numbers.{six_of}
use Rattle.exports.proofs.Put.{leaves-short}
use Rattle.exports.proofs.Box.{leaves-triple}
use Rattle.exports.proofs.boxes.put_triple.Goals as goal

pub returns-then-out-lt6 : goal.returns-then-out-lt6
returns-then-out-lt6 c = let a = c.args in
    leaves-short (six_of a.t) a.out.now _ c.clear.ensures (omega arith)

pub returns : goal.returns
returns c = let a = c.args in
    leaves-triple a.t a.out.now _ _ c.clear.ensures (omega arith) c.store_triple.ensures
