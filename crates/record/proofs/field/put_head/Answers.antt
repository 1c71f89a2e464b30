-- A tag and a length, stored.
-- Assumes nothing.
use mathlib.Core.Path.{◌∙◌}
use native.Mathlib.Omega.{arith}
use native.Mathlib.Numerals.{add-one}
use lib.ListN.{length-set}
use Rattle.record.specs.Format.{head}
use Rattle.record.proofs.field.put_head.Goals as goal

pub put_u16-requires : goal.put_u16-requires
put_u16-requires c = rw length-set (omega arith)

pub shape_of-out : goal.shape_of-out
shape_of-out c = c.put_u16.auto.out ∙ simp length-set

pub returns : goal.returns
unfolding head
returns c = c.put_u16.ensures ∙ rw add-one
