use Prim.Native.Nat.{◌<◌}
use Rattle.std.specs.Prelude.{Result}
use Rattle.edits.specs.declared.answer.FormedCurve.{FormedCurve}
use Rattle.knots.specs.declared.refusal.Refusal.{Refusal}
use mathlib.Core.Path.{sym, ◌∙◌, subst}
use native.Mathlib.Nat.{zero-add}
use native.Mathlib.Omega.{arith}
use Rattle.exports.specs.Tables.{packed_of}
use Rattle.exports.specs.Edits.{points_of}
use Rattle.exports.proofs.editing.edit_number.Goals as goal

pub overflow_mul-result : goal.overflow_mul-result
overflow_mul-result c = let few = subst (λ (x : Result FormedCurve Refusal). points_of x < 4294967296) c.in-Ok.is c.requires in omega arith

pub returns-in-Ok : goal.returns-in-Ok
unfolding packed_of
returns-in-Ok c = rw c.in-Ok.is (omega arith)

pub returns-in-Err : goal.returns-in-Err
returns-in-Err c = rw c.in-Err.is (c.packed.ensures ∙ sym (zero-add _))
