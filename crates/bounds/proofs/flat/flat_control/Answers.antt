use mathlib.Core.Path.{sym, ◌∙◌}
use Rattle.jets.specs.Jet.{constant_of}
use Rattle.bounds.specs.Start.{control_of}
use Rattle.bounds.proofs.Flats.{moved_same}
use Rattle.bounds.proofs.flat.flat_control.Goals as goal

pub returns-then-is_factor : goal.returns-then-is_factor
unfolding control_of constant_of
returns-then-is_factor c = let e = sym c.is_factor.ensures ∙ c.if-is_factor.true in rw (c.ends_of.ensures, c.flat_moved.ensures, c.flat_moved-then-is_factor.ensures, c.flat_moved-then-is_factor-2.ensures, c.factor_of-f.ensures, moved_same c.args.p.x c.args.o.x c.mul-q.result (rw c.factor_of-f.ensures at e), moved_same c.args.p.y c.args.o.y c.mul-q.result (rw c.factor_of-f.ensures at e), moved_same c.args.p.z c.args.o.z c.mul-q.result (rw c.factor_of-f.ensures at e), c.mul-q.ensures, c.point.ensures)

pub returns-else-is_factor : goal.returns-else-is_factor
unfolding control_of constant_of
returns-else-is_factor c = rw (c.ends_of-else-is_factor.ensures, c.moved_by.ensures, c.moved_by-else-is_factor.ensures, c.moved_by-else-is_factor-2.ensures, c.mul-q.ensures, c.point.ensures)
