use Rattle.exports.proofs.Settled.{settled-iso}
use Rattle.exports.proofs.curves.tasulogi_iso_curve.Goals as goal

pub returns : goal.returns
returns c = let all = settled-iso c.packed_check.ensures c.iso_curve.ensures in
    record { value = all.0; iso_meets = all.1 }
