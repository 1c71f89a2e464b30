-- A space and 16 digits, where there is room.
-- Assumes nothing.
use Prim.Native.Nat.{◌+◌, ◌≤◌}
use mathlib.Core.Path.{sym, ◌∙◌}
use native.Mathlib.Omega.{arith}
use native.Mathlib.Numerals.{add-one}
use lib.ListN.{length, length-set}
use borrow.Author.Tests.{leb-true, leb-false}
use borrow.Author.Rules.{rules}
use Rattle.decimals.proofs.Storing.{put-stored, put-nothing, text-stored, length-spaced}
use Rattle.decimals.specs.Text.{spaced_bits}
use Rattle.decimals.proofs.pieces.put_bits.Goals as goal

pub bounds-out-at : goal.bounds-out-at
bounds-out-at c = omega (arith, (let has' : c.args.at + 17 ≤ length c.args.out.now = leb-true _ _ (sym c.has_room.ensures ∙ c.if-has_room.true) in has'))

pub overflow_add-at : goal.overflow_add-at
overflow_add-at c = let room = (let has' : c.args.at + 17 ≤ length c.args.out.now = leb-true _ _ (sym c.has_room.ensures ∙ c.if-has_room.true) in has') in
    search rules

pub put_digits-requires : goal.put_digits-requires
put_digits-requires c = let room = (let has' : c.args.at + 17 ≤ length c.args.out.now = leb-true _ _ (sym c.has_room.ensures ∙ c.if-has_room.true) in has') in
    record {
      base_nonzero = omega arith;
      base_bound = omega arith;
      k_in_bounds = simp length-set (omega arith);
    }

pub overflow_add-result : goal.overflow_add-result
overflow_add-result c = let room = (let has' : c.args.at + 17 ≤ length c.args.out.now = leb-true _ _ (sym c.has_room.ensures ∙ c.if-has_room.true) in has') in
    search rules

pub shape_of-out-then-has_room : goal.shape_of-out-then-has_room
shape_of-out-then-has_room c = c.put_digits.auto.out ∙ simp length-set

pub returns-then-has_room : goal.returns-then-has_room
unfolding spaced_bits
returns-then-has_room c = let a = c.args in
    let room = (let has' : c.args.at + 17 ≤ length c.args.out.now = leb-true _ _ (sym c.has_room.ensures ∙ c.if-has_room.true) in has') in
    put-stored 17 room (text-stored (spaced_bits a.x) (c.put_digits.ensures ∙ rw (c.bits_of.ensures, add-one)) (rw (length-spaced a.x))) (omega arith)

pub returns : goal.returns
returns c = put-nothing _ _ _ _ (leb-false _ _ (sym c.has_room.ensures ∙ c.if-has_room.false))
