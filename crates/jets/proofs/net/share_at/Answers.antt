use lib.Ieee.{of_bits}
use Rattle.std.proofs.Common.{ap}
use Rattle.std.proofs.lemmas.Result.{err_from_is_err_and}
use Rattle.jets.specs.Net.{share_of, share_by}
use Rattle.jets.proofs.net.share_at.Goals as goal

pub returns-in_err-q : goal.returns-in_err-q
unfolding share_of of_bits
returns-in_err-q c = let p = err_from_is_err_and c.from_residual.result c.from_residual.ensures.1 in
    rw (p.1, p.2, ← c.point-l.ensures, ← c.point.ensures, ← c.sub-d.ensures, ← c.point-2.ensures) (ap (share_by c.args.t c.point-l.result) c.in_err-q.ensures)

pub returns : goal.returns
unfolding share_of of_bits
returns c = rw (
  ← c.point-l.ensures,
  ← c.point.ensures,
  ← c.sub-d.ensures,
  ← c.point-2.ensures,
  c.scale.ensures,
  c.sub.ensures,
  c.constant.ensures,
) (ap (share_by c.args.t c.point-l.result) c.in_ok-q.ensures)
