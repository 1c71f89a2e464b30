-- `edits::start::clamped_ends` meets its contract.
-- Assumes nothing.
use Rattle.std.proofs.Common.{sym, ◌∙◌}
use Rattle.edits.proofs.Starting.{clamped-no, clamped-rest}
use Rattle.edits.proofs.start.clamped_ends.Goals as goal

pub returns-then-all_equal : goal.returns-then-all_equal
returns-then-all_equal c = let a = c.args in
    clamped-rest a.p a.n a.knots.now (sym c.all_equal.ensures ∙ c.if-all_equal.true) _ c.all_equal-then-all_equal.ensures

pub returns-else-all_equal : goal.returns-else-all_equal
returns-else-all_equal c = let a = c.args in
    c.if-all_equal.false ∙ clamped-no a.p a.n a.knots.now (sym c.all_equal.ensures ∙ c.if-all_equal.false)
