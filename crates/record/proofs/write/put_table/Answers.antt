-- The fields, stored one behind another.
-- Assumes nothing.
use mathlib.Core.Path.{◌∙◌, ap}
use native.Mathlib.Omega.{arith}
use Prim.Native.Nat.{ℕ, ◌+◌, ◌*◌}
use mathlib.Core.List.{List}
use lib.ListN.{length}
use lib.Seq.{sets}
use Rattle.record.proofs.Written.{run, front-stored, polynomial-put, rational-put}
use Rattle.record.proofs.write.put_table.Goals as goal

pub put_run-requires-then-curve : goal.put_run-requires-then-curve
put_run-requires-then-curve c = let room =
    rw
    c.if-curve.true at
    c.requires in
    omega arith

pub returns-then-curve : goal.returns-then-curve
returns-then-curve c = let a = c.args in
    let ks = a.curve.knots.now in
    let ps = a.curve.points.now in
    let ws = a.curve.weights.now in
    let out = a.out.now in
    let f =
    front-stored
    out a.curve.degree ks ps
    c.put_head.ensures
    c.put_u16.ensures
    c.put_run.ensures c.put_run-2.ensures in
    rw c.if-curve.true
    (c.put_run-then-curve.ensures
    ∙ (ap (λ (x : List ℕ). sets x (8 + 8 * length ks + 3 + 8 * length ps) (run 4 ws)) f ∙ rational-put out a.curve.degree ks ps ws))

pub returns-else-curve : goal.returns-else-curve
returns-else-curve c = let a = c.args in
    let ks = a.curve.knots.now in
    let ps = a.curve.points.now in
    let ws = a.curve.weights.now in
    let out = a.out.now in
    let f =
    front-stored
    out a.curve.degree ks ps c.put_head.ensures
    c.put_u16.ensures c.put_run.ensures
    c.put_run-2.ensures in
    rw c.if-curve.false (f ∙ polynomial-put out a.curve.degree ks ps ws)
