use Rattle.jets.specs.Net.{mix_of, mix_jet}
use lib.Ieee.{of_bits}
use Rattle.jets.proofs.net.mix.Goals as goal

pub returns : goal.returns
unfolding mix_of mix_jet of_bits
returns c = rw (
  c.mix_jet-4.ensures,
  c.mix_jet-3.ensures,
  c.mix_jet-2.ensures,
  c.mix_jet.ensures,
  c.sub-beta.ensures,
  c.constant.ensures,
  c.point.ensures,
)
