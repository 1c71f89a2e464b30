use Rattle.interval.proofs.Facts.{finite-yes, finite-no}
use Rattle.interval.proofs.float.is_finite.Goals as goal

pub returns-then-i-x : goal.returns-then-i-x
returns-then-i-x c = finite-yes _ _ c.infinity-i.ensures c.if-i-x.true

pub returns-else-i-x : goal.returns-else-i-x
returns-else-i-x c = finite-no _ _ c.infinity-i.ensures c.if-i-x.false
