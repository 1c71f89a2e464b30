use Rattle.exports.proofs.Settled.{settled-reverse}
use Rattle.exports.proofs.curves.tasulogi_reversed.Goals as goal

pub returns : goal.returns
returns c = let all = settled-reverse c.packed_check.ensures c.reversed.ensures in
    record { value = all.0; reverse_meets = all.1 }
