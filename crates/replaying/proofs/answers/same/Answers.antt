-- An answer beside a wanted pattern: a zero first where it may have either sign, all else by its bits.
-- Assumes nothing.
use mathlib.Core.Path.{◌≡◌, sym, subst, ◌∙◌}
use mathlib.Core.Bool.{true, true≢false}
use lib.Dec.{T}
use Rattle.replaying.specs.Same.{Zero}
use Rattle.replaying.proofs.Judging.{zero-judged, bits-judged}
use Rattle.replaying.proofs.answers.same.Goals as goal
use Rattle.replaying.proofs.answers.same.Goals.{then-either+else-x, else-either}

pub returns-then-x : goal.returns-then-x
returns-then-x c = rw c.double_of-y.ensures (zero-judged _ _ _ c.if-either.true c.if-x.true)

pub returns : goal.returns
returns c = let d = c.double_of-y in
    let other : c.args.either ≡ true → Zero c.args.x → ⊥ = λ o z. elim c.if-either.branch [ then-either+else-x w ↦ true≢false (sym z ∙ w.if-x.false) | else-either w ↦ true≢false (sym o ∙ w.if-either.false) ] in
    rw (c.bits_of.ensures, c.bits_of-2.ensures, d.ensures) (bits-judged c.args.x c.args.want c.args.either (subst T (sym c.well_formed.0.1) tt) other)
