-- `knots::knots::knot_number` meets its contract.
-- Assumes nothing.
use Rattle.std.proofs.Common.{sym, ap, ◌∙◌}
use Prim.Native.Nat.{ℕ}
use Rattle.knots.specs.declared.refusal.Refusal.{Refusal}
use Rattle.knots.proofs.Refusals.{let_by, stopped_by}
use Rattle.knots.proofs.knots.knot_number.Goals as goal

abbrev number : Refusal → ℕ
number r = r.number

pub returns-in-Ok : goal.returns-in-Ok
returns-in-Ok c = sym (let_by _ (sym c.in-Ok.is ∙ c.knot_refusal.ensures))

pub returns-in-Err : goal.returns-in-Err
returns-in-Err c = ap number (stopped_by _ (sym c.in-Err.is ∙ c.knot_refusal.ensures)).0
