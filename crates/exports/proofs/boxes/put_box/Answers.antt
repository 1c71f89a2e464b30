use Rattle.bounds.specs.Numbers.{bounded_values}
use Rattle.std.specs.Prelude.{Ok}
use Rattle.exports.proofs.Put.{leaves-short}
use Rattle.exports.proofs.Box.{leaves-box}
use native.Mathlib.Omega.{arith}
use Rattle.exports.proofs.boxes.put_box.Goals as goal

pub returns-then-out-lt18 : goal.returns-then-out-lt18
returns-then-out-lt18 c = let a = c.args in leaves-short (bounded_values (Ok a.b)) a.out.now _ c.clear.ensures (omega arith)

pub returns : goal.returns
returns c = let a = c.args in
    leaves-box
    a.b a.out.now _ _ _ _ c.clear.ensures (omega arith)
    c.store_triple.ensures c.store_triple-2.ensures
    c.store_triple-3.ensures
