use Rattle.jets.specs.Jet.{jet_sub}
use Rattle.jets.proofs.jet.Jet.sub.Goals as goal

pub returns : goal.returns
unfolding jet_sub
returns c = rw (c.sub.ensures, c.sub-2.ensures, c.sub-3.ensures)
