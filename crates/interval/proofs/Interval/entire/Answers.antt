use lib.Ieee.{Float, neg}
use Rattle.std.proofs.Common.{ap}
use Rattle.interval.proofs.Interval.entire.Goals as goal

pub returns : goal.returns
unfolding neg
returns c = ap (λ (x : Float). record { lo = neg x; hi = x }) c.infinity-i.ensures
