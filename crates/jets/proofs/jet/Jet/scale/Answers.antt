use Rattle.jets.specs.Jet.{jet_scale}
use Rattle.jets.proofs.jet.Jet.scale.Goals as goal

pub returns : goal.returns
unfolding jet_scale
returns c = rw (c.mul.ensures, c.mul-2.ensures, c.mul-3.ensures)
