use Rattle.jets.specs.Net.{slope_of}
use Rattle.jets.specs.Jet.{jet_add, jet_mul}
use Rattle.jets.proofs.net.mix_jet.Goals as goal

pub returns : goal.returns
unfolding jet_add jet_mul slope_of
returns c = rw (c.slope-2.ensures, c.slope.ensures, c.dot.ensures)
