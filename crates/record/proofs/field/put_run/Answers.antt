-- A field of doubles, stored. The invariant: behind the head stand the bytes of the first j doubles.
-- Assumes nothing.
use mathlib.Core.Path.{◌≡◌, ◌∙◌, ap}
use native.Mathlib.Omega.{arith}
use Prim.Native.Nat.{ℕ, ◌+◌, ◌*◌}
use mathlib.Core.List.{List}
use borrow.Author.Rules.{rules}
use lib.ListN.{length, take, length-map}
use lib.Seq.{sets, take_all}
use lib.Ieee.{Float, binary64, to_bits}
use Rattle.record.specs.Format.{little, doubles}
use Rattle.record.specs.Writing.{bits}
use Rattle.record.proofs.Stores.{run_more, field-whole}
use Rattle.record.proofs.Runs.{length-doubles}
use Rattle.record.proofs.field.put_run.Goals as goal

pub loop-j-init : goal.loop-j-init
unfolding doubles
loop-j-init c = search rules

pub loop-j-preserved : goal.loop-j-preserved
loop-j-preserved c = let a = c.args.i + 3 in
    let j = c.loop-j.j in
    c.put_u64.ensures
    ∙ (ap (λ (l : List ℕ). sets l (a + 8 * j) (little 8 c.bits_of.result)) c.loop-j.invariant
    ∙ rw c.bits_of.ensures (run_more j a c.args.xs.now c.put_head.new.out (omega arith)))

pub returns : goal.returns
returns c = let xs = c.args.xs.now in
    let out = c.args.out.now in
    let i = c.args.i in
    let j = c.loop-j.j in
    let full : take j xs ≡ xs = take_all j xs (omega arith) in
    let long : length (doubles (bits xs)) ≡ 8 * length xs = length-doubles (bits xs) ∙ ap (λ (n : ℕ). 8 * n) (length-map xs (λ (x : Float). to_bits binary64 x)) in
    rw full at c.loop-j.invariant
    ∙ (ap (λ (l : List ℕ). sets l (i + 3) (doubles (bits xs))) c.put_head.ensures
    ∙ rw (← long) (field-whole i c.args.tag (doubles (bits xs)) out))
