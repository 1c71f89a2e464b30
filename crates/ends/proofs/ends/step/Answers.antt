use mathlib.Core.Path.{ap, ◌∙◌}
use mathlib.Core.Bool.{false}
use lib.Ieee.{lt, inf}
use Rattle.doubles.specs.Neighbour.{next_up}
use Rattle.ends.specs.Ends.{step_of}
use Rattle.ends.proofs.Plain.{capped-below}
use Rattle.ends.proofs.ends.step.Goals as goal

pub above-requires : goal.above-requires
above-requires c = ap (λ x. lt x (inf false)) c.capped.ensures ∙ capped-below c.args.x

pub returns : goal.returns
unfolding step_of
returns c = c.above.ensures ∙ ap next_up c.capped.ensures
