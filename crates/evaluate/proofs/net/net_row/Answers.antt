-- `evaluate::net::net_row` meets its contract.
-- Assumes nothing.
use Prim.Native.Nat.{ℕ, ◌+◌}
use mathlib.Core.Path.{◌≡◌, refl}
use native.Mathlib.Omega.{arith}
use mathlib.Core.Bool.{false}
use lib.Ieee.{binary64, mul}
use Rattle.basis.specs.Basis.{cell}
use Rattle.evaluate.specs.Controls.{sums_from, row_term}
use Rattle.evaluate.proofs.Summed.{sums_none, sums-more, term_is}
use Rattle.evaluate.specs.declared.sums.Sums.{Sums}
use Rattle.evaluate.proofs.net.net_row.Goals as goal
use Rattle.evaluate.proofs.net.net_row.Goals.{After-plus_of-t}

pub loop-l-init : goal.loop-l-init
loop-l-init c = let a = c.args in
    sums_none a.s (row_term false a.points.now a.rational a.weights.now a.scale a.o a.first (λ l. mul binary64 a.x (cell a.ders.now a.j l)))

-- what each place of the row adds
abbrev term : After-plus_of-t → ℕ → Sums
term c = row_term false c.args.points.now c.args.rational c.args.weights.now c.args.scale c.args.o c.args.first (λ l. mul binary64 c.args.x (cell c.args.ders.now c.args.j l))

-- the sums with the term of this turn
more : (c : After-plus_of-t) → c.plus_of-t.result ≡ sums_from c.args.s (term c) (c.loop-l.l + 1)
more c = let a = c.args in
    let l = c.loop-l in
    let t =
    term_is
    false a.points.now a.rational a.weights.now a.scale a.first l.l (λ i. mul binary64 a.x (cell a.ders.now a.j i)) a.o _ _ _ refl
    c.point_at-c.ensures c.weight_at-w.ensures _ c.term_of.ensures in
    sums-more a.s (term c) l.l l.t _ _ l.invariant t c.plus_of-t.ensures

pub loop-l-preserved : goal.loop-l-preserved
loop-l-preserved c = more (goal.at.loop-l-preserved c).After-plus_of-t

pub returns-2 : goal.returns-2
returns-2 c = let e : c.loop-l.l ≡ c.args.q = omega arith in cc (more (goal.at.returns-2 c).After-plus_of-t)
