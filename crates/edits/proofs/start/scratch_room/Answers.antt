-- `edits::start::scratch_room` meets its contract.
-- Assumes nothing.
use Rattle.std.proofs.Common.{◌∙◌, ap}
use Rattle.std.specs.Prelude.{Err}
use native.Mathlib.Omega.{arith}
use Rattle.knots.specs.Refusal.{checked}
use Rattle.edits.proofs.Starting.{scratch-short, scratch-fits}
use Rattle.edits.proofs.start.scratch_room.Goals as goal

pub returns-then-n-d : goal.returns-then-n-d
unfolding checked
returns-then-n-d c = let t = c.if-n-d.true in ap Err c.refuse.ensures ∙ ap checked (scratch-short c.args.p c.args.n c.args.d (omega arith))

pub returns-then-p-d : goal.returns-then-p-d
unfolding checked
returns-then-p-d c = let a = c.args in
    let t = c.if-p-d.true in let u = c.if-n-d.false in ap Err c.refuse-then-p-d.ensures ∙ ap checked (scratch-short a.p a.n a.d (omega arith))

pub returns : goal.returns
unfolding checked
returns c = let a = c.args in
    let t = c.if-p-d.false in let u = c.if-n-d.false in ap checked (scratch-fits a.p a.n a.d (omega arith))
