-- `made::iso::iso_sums` meets its contract.
-- Assumes nothing.
use mathlib.Core.Path.{◌≡◌, sym, subst}
use lib.Ieee.{of_bits, binary64, mul}
use Rattle.doubles.specs.Run.{at}
use Rattle.made.specs.Iso.{iso_term, iso_part, iso_sums}
use Prim.Native.Nat.{ℕ, ◌+◌}
use native.Mathlib.Omega.{arith}
use native.Mathlib.Nat.{zero-add}
use Rattle.basis.specs.Basis.{cell}
use Rattle.evaluate.specs.Controls.{no_sums}
use Rattle.evaluate.proofs.Summed.{sums_none, sums-more}
use Rattle.made.proofs.Isos.{part-is}
use Rattle.made.proofs.iso.iso_sums.Goals as goal
use Rattle.made.proofs.iso.iso_sums.Goals.{After-plus_of-s}

pub loop-j-init : goal.loop-j-init
unfolding of_bits iso_sums
loop-j-init c = let a = c.args in
    sums_none no_sums (iso_part a.points.now a.rational a.weights.now a.strip.constant_u a.strip.columns a.strip.first (cell a.ders.now 0) a.k)

-- the sums with the term of this turn
more : (c : After-plus_of-s)
    → c.plus_of-s.result ≡ iso_sums c.args.points.now c.args.rational c.args.weights.now c.args.strip.constant_u c.args.strip.columns c.args.strip.first (cell c.args.ders.now 0) (c.loop-j.j + 1) c.args.k
unfolding iso_sums
more c = let a = c.args in
    let l = c.loop-j in
    sums-more
    no_sums
    (iso_part a.points.now a.rational a.weights.now a.strip.constant_u a.strip.columns a.strip.first (cell a.ders.now 0) a.k) l.j l.s _ _ l.invariant
    (part-is
    a.points.now a.rational a.weights.now a.strip.constant_u a.strip.columns a.strip.first (cell a.ders.now 0) a.k l.j _ _ _ _
    c.place-at.ensures c.weight_at.ensures c.point_at-q.ensures
    (subst
    (λ (i : ℕ). c.iso_term_of.result ≡ iso_term c.point_at-q.result (mul binary64 c.weight_at.result (at a.ders.now i)))
    (sym (zero-add l.j)) c.iso_term_of.ensures))
    c.plus_of-s.ensures

pub loop-j-preserved : goal.loop-j-preserved
loop-j-preserved c = more (goal.at.loop-j-preserved c).After-plus_of-s

pub returns-2 : goal.returns-2
returns-2 c = let e : c.loop-j.j ≡ c.args.strip.p = omega arith in cc (more (goal.at.returns-2 c).After-plus_of-s)
