-- `runs::copy::copy_run` meets its contract.
-- Assumes nothing.
use Rattle.runs.proofs.Cleared.{copied}
use Rattle.runs.proofs.copy.copy_run.Goals as goal

pub returns : goal.returns
returns c = let a = c.args in
    copied c.min-n.result a.xs.now a.out.now _ _ c.min-n.ensures c.copy_front.ensures c.clear_from.ensures
