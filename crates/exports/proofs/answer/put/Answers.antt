use lib.Ieee.{Float}
use Rattle.exports.specs.Answer.{values}
use Rattle.exports.proofs.Put.{leaves_by, leaves-short, leaves-two}
use mathlib.Core.Path.{◌∙◌, ap}
use mathlib.Core.List.{[], ◌∷◌}
use native.Mathlib.Omega.{arith}
use Rattle.exports.proofs.answer.put.Goals as goal

pub returns-then-out-lt2 : goal.returns-then-out-lt2
returns-then-out-lt2 c = let a = c.args in
    leaves-short (a.i.lo ∷ a.i.hi ∷ []) a.out.now _ c.clear.ensures (omega arith)

pub returns : goal.returns
returns c = let a = c.args in
    leaves_by
    (ap (λ (x : Float). values (x ∷ c.hi.result ∷ [])) c.lo.ensures ∙ ap (λ (y : Float). values (a.i.lo ∷ y ∷ [])) c.hi.ensures)
    (leaves-two c.lo.result c.hi.result a.out.now _ c.clear.ensures (omega arith))
