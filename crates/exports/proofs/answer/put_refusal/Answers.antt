-- `exports::answer::put_refusal` meets its contract.
-- Assumes nothing.
use mathlib.Core.Path.{refl}
use Rattle.exports.proofs.Put.{told-refused}
use Rattle.exports.proofs.answer.put_refusal.Goals as goal

pub returns : goal.returns
returns c = told-refused _ c.packed.ensures (record { returned = refl; left = c.clear.ensures })
