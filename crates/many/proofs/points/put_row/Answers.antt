-- `many::points::put_row` meets its contract.
-- Assumes nothing.
use Prim.Native.Nat.{◌≤◌}
use mathlib.Core.Path.{refl}
use native.Mathlib.Omega.{arith}
use Rattle.many.proofs.Rows.{small_product}
use Rattle.many.proofs.Evaluated.{width_small, row-short, row-long}
use Rattle.many.proofs.points.put_row.Goals as goal

pub overflow_mul-at : goal.overflow_mul-at
overflow_mul-at c = let a = c.args in
    let w : c.width.result ≤ 18 = rw c.width.ensures (width_small a.two) in omega (arith, small_product a.i c.width.result (omega (arith, c.requires.i_bound)) w)

pub overflow_add-at : goal.overflow_add-at
overflow_add-at c = let a = c.args in
    let w : c.width.result ≤ 18 = rw c.width.ensures (width_small a.two) in
    omega (arith, small_product a.i c.width.result (omega (arith, c.requires.i_bound)) w)

pub overflow_add-at-then-two : goal.overflow_add-at-then-two
overflow_add-at-then-two c = let b = c.width in
    let a = c.args in
    let w : b.result ≤ 18 = rw b.ensures (width_small a.two) in
    omega (
      arith,
      small_product
          a.i b.result
          (omega (arith, c.requires.i_bound)) w,
    )

pub returns-then-two : goal.returns-then-two
returns-then-two c = let a = c.args in
    record {
      numbers_after = refl;
      rows_after = row-long
          a.two a.row a.rows.now a.i c.width.result _ _
          c.width.ensures
          c.store_vector.ensures
          c.store_vector-2.ensures c.if-two.true _ c.store_vector-then-two.ensures;
    }

pub returns-else-two : goal.returns-else-two
returns-else-two c = let a = c.args in
    record {
      numbers_after = refl;
      rows_after = row-short
          a.two a.row a.rows.now a.i c.width.result _ _
          c.width.ensures c.store_vector.ensures
          c.store_vector-2.ensures c.if-two.false;
    }
