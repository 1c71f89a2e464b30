use mathlib.Core.List.{[], ◌∷◌}
use native.Mathlib.Omega.{arith}
use Rattle.exports.proofs.Put.{leaves-short, leaves-one}
use Rattle.exports.proofs.answer.put_one.Goals as goal

pub returns-then-out-lt1 : goal.returns-then-out-lt1
returns-then-out-lt1 c = let a = c.args in
    leaves-short (a.x ∷ []) a.out.now _ c.clear.ensures (omega arith)

pub returns : goal.returns
returns c = let a = c.args in
    leaves-one a.x a.out.now _ c.clear.ensures (omega arith)
