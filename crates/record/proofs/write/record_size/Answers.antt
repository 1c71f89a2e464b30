-- The size of a record. A run of 8,192 doubles alone is over 65,536 bytes, so no sum wraps.
-- Assumes nothing.
use mathlib.Core.Path.{◌∙◌}
use native.Mathlib.Omega.{arith}
use Prim.Native.Nat.{◌+◌, ◌*◌}
use Rattle.record.specs.Writing.{weight_bytes}
use Rattle.record.proofs.Sizes.{size-high, size-long, size_is}
use native.Mathlib.Nat.{add-zero}
use Rattle.record.proofs.write.record_size.Goals as goal

pub returns-then-degree-gt65535 : goal.returns-then-degree-gt65535
returns-then-degree-gt65535 c = let a = c.args in
    let more = weight_bytes a.rational a.weights in
    size-high a.degree a.knots a.points more c.if-degree-gt65535.true

pub returns-then-knots-gt8191 : goal.returns-then-knots-gt8191
returns-then-knots-gt8191 c = let a = c.args in
    let more = weight_bytes a.rational a.weights in
    size-long a.degree a.knots a.points more (omega arith)

pub returns-then-points-gt8191 : goal.returns-then-points-gt8191
returns-then-points-gt8191 c = let a = c.args in
    let more = weight_bytes a.rational a.weights in
    size-long a.degree a.knots a.points more (omega arith)

pub returns-then-weights-gt8191 : goal.returns-then-weights-gt8191
returns-then-weights-gt8191 c = let a = c.args in
    rw c.if-rational.true (size-long a.degree a.knots a.points (3 + 8 * a.weights) (omega arith))

pub returns-then-rational : goal.returns-then-rational
returns-then-rational c = let a = c.args in
    rw c.if-rational.true (c.within.ensures ∙ size_is a.degree a.knots a.points (3 + 8 * a.weights) c.if-degree-gt65535.false)

pub returns : goal.returns
returns c = let a = c.args in
    rw (c.if-rational.false, add-zero) (c.within-2.ensures ∙ rw add-zero at (size_is a.degree a.knots a.points 0 c.if-degree-gt65535.false))
