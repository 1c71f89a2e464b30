use Rattle.bounds.specs.Start.{start_at}
use Rattle.bounds.proofs.Points.{start-good}
use Rattle.bounds.proofs.flat.flat_by.Goals as goal

pub returns : goal.returns
returns c = c.flat_levels.ensures (start_at c.args.points.now c.args.weights.now c.args.rational c.args.base c.args.o c.args.r) (λ m h. start-good c.args.points.now c.args.weights.now c.args.rational c.args.base c.args.o c.args.r m) c.fill_flat.ensures.filled_to
