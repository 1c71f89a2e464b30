-- Doubles into a run. The invariant: the first j are stored, and the others are as they were.
-- Assumes nothing.
use mathlib.Core.Path.{◌∙◌, ap}
use borrow.Author.Rules.{rules}
use mathlib.Core.List.{List}
use lib.ListN.{set, drop}
use lib.Ieee.{Float}
use Rattle.record.specs.Reading.{patterns, numbers}
use Rattle.record.proofs.Stores.{front-more}
use Rattle.record.proofs.Runs.{numbers_more, length-numbers}
use Rattle.record.proofs.field.fill.Goals as goal

pub loop-j-init : goal.loop-j-init
unfolding patterns
loop-j-init c = search rules

pub loop-j-preserved : goal.loop-j-preserved
loop-j-preserved c = let s = c.args.s.now in
    let i = c.args.i in
    let j = c.loop-j.j in
    let xs = numbers (patterns j (drop i s)) in
    ap (λ (l : List Float). set l j c.double_at.result) c.loop-j.invariant
    ∙ (front-more c.args.out.now xs c.double_at.result j (length-numbers j (drop i s))
    ∙ rw (c.double_at.ensures, ← numbers_more))
