use borrow.Author.Tests.{le-leb, lt-leb}
use mathlib.Core.Path.{◌∙◌, ap}
use Rattle.insertion.specs.Passes.{blend_one}
use Rattle.edits.specs.Control.{blend_of}
use Rattle.insertion.proofs.lower.blend_at.Goals as goal

pub returns-then-i-spot : goal.returns-then-i-spot
unfolding blend_one
returns-then-i-spot c = simp (le-leb _ _ c.if-i-spot.true)

pub returns-then-i-spot-2 : goal.returns-then-i-spot-2
unfolding blend_one
returns-then-i-spot-2 c = let a = c.args in
    simp
    (lt-leb _ _ c.if-i-spot.false, le-leb _ _ c.if-i-spot-2.true)
    (c.blend_of.ensures ∙ ap (blend_of a.before a.here) c.share_of-s.ensures)

pub returns : goal.returns
unfolding blend_one
returns c = simp (lt-leb _ _ c.if-i-spot.false, lt-leb _ _ c.if-i-spot-2.false)
