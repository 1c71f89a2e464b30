use Prim.Native.Nat.{ℕ}
use native.Mathlib.Omega.{arith}
use Rattle.ends.specs.Flat.{flat_of}
use Rattle.bounds.specs.Start.{start_at}
use Rattle.bounds.proofs.Flats.{flat-more}
use Rattle.bounds.proofs.flat.fill_flat.Goals as goal

pub loop-m-preserved : goal.loop-m-preserved
unfolding start_at
loop-m-preserved c = flat-more (λ (m : ℕ). flat_of (start_at c.args.points.now c.args.weights.now c.args.rational c.args.base c.args.o c.args.r m)) c.args.degree _ c.loop-m.net c.loop-m.m c.loop-m.invariant c.loop-m-test.true c.requires.degree_in_bounds _ (rw (c.flat_control-c.ensures, c.weight_at.ensures, c.point_at.ensures)) _ c.put_flat.ensures

pub returns-2-clause-filled_to : goal.returns-2-clause-filled_to
unfolding start_at
returns-2-clause-filled_to c = λ i h. (flat-more (λ (m : ℕ). flat_of (start_at c.args.points.now c.args.weights.now c.args.rational c.args.base c.args.o c.args.r m)) c.args.degree _ c.loop-m.net c.loop-m.m c.loop-m.invariant c.loop-m-test.true c.requires.degree_in_bounds _ (rw (c.flat_control-c.ensures, c.weight_at.ensures, c.point_at.ensures)) _ c.put_flat.ensures).done i (omega arith)
