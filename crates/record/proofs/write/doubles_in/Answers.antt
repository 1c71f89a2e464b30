-- The numbers of a run by itself are doubles, by its type.
-- Assumes nothing.
use Rattle.record.proofs.RoundTrip.{kept}
use Rattle.record.proofs.write.doubles_in.Goals as goal

pub returns-clause-kept : goal.returns-clause-kept
returns-clause-kept c = kept c.args.xs.now (λ i. c.type_inv.xs i)
